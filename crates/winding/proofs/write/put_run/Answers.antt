-- `write::put_run` meets its contract. The loop's invariant: the first i entries of the turned run are written, and while
-- there are more, k is where the next of them stands in the run.
use Rattle.std.proofs.Common.{ℕ, List, length, get_or, set, ap, ◌∙◌, ap₂, refl, arith}
use Rattle.base.proofs.Lists.{front_more, front_whole}
use Rattle.winding.specs.Turn.{turned}
use Rattle.winding.proofs.Turned.{length-turned, source_start, source_step, source_lt, get_d_turned}
use Rattle.winding.proofs.write.put_run.Goals as goal

pub loop-i-init : goal.loop-i-init
loop-i-init c = (λ _. c.start_of-k.ensures ∙ source_start c.args.back (length c.args.run.now), refl)

pub bounds-run-k : goal.bounds-run-k
bounds-run-k c =
    let a = c.args in
    omega (arith, c.loop-i.invariant.0 c.loop-i-test.true, source_lt a.back (length a.run.now) c.loop-i.i c.loop-i-test.true)

pub offset_bounds-run-k : goal.offset_bounds-run-k
offset_bounds-run-k c =
    let a = c.args in
    omega (arith, c.loop-i.invariant.0 c.loop-i-test.true, source_lt a.back (length a.run.now) c.loop-i.i c.loop-i-test.true)

pub loop-i-preserved : goal.loop-i-preserved
loop-i-preserved c =
    let a = c.args in
    let run = a.run.now in
    let i = c.loop-i.i in
    let k = c.loop-i.invariant.0 c.loop-i-test.true in (
      λ more. rw (k, c.step_of-step.ensures) (source_step a.back (length run) i (omega arith) more),
      ap₂ (λ (w : List ℕ) (v : ℕ). set w i v) c.loop-i.invariant.1
          (ap (λ (k : ℕ). get_or run k 0) k ∙ get_d_turned a.back run i c.loop-i-test.true)
          ∙ front_more (turned a.back run) a.out.now i (omega (arith, length-turned a.back run)) (omega arith),
    )

pub returns : goal.returns
returns c =
    let a = c.args in
    c.loop-i.invariant.1 ∙ front_whole (turned a.back a.run.now) a.out.now c.loop-i.i (omega (arith, length-turned a.back a.run.now))
