-- `lengths::tally` meets its contract: what is counted and what is left to count add up to the whole.
use Rattle.std.proofs.Common.{arith}
use native.Mathlib.Nat.{add-zero}
use Rattle.recognise.specs.Recognise.{tally}
use Rattle.recognise.proofs.Nodes.{tally_step, tally_few}
use Rattle.recognise.proofs.lengths.tally.Goals as goal

pub overflow_add-found : goal.overflow_add-found
overflow_add-found c =
    let step = tally_step c.args.n _ _ _ c.in-Some.ensures.steps in
    omega (arith, c.loop-face.invariant, step, tally_few c.args.n c.args.ids.now, c.from-found.ensures)

pub loop-face-preserved : goal.loop-face-preserved
loop-face-preserved c =
    let step = tally_step c.args.n _ _ _ c.in-Some.ensures.steps in
    (tt, tt, omega (arith, c.loop-face.invariant, step, c.from-found.ensures))

pub returns : goal.returns
unfolding tally
returns c = rw (c.in-None.ensures.steps.0, add-zero) at c.loop-face.invariant.2
