-- `wedge::after_edge` meets its contract: no quad passed runs along the edge.
use Rattle.std.proofs.Common.{below_more, arith}
use Rattle.shapes.proofs.Seeks.{runs-at, runs-none}
use Rattle.shapes.proofs.wedge.after_edge.Goals as goal

pub loop-k-preserved : goal.loop-k-preserved
loop-k-preserved c = below_more _ _ c.loop-k.invariant c.in_default.ensures

pub returns-in-Some : goal.returns-in-Some
returns-in-Some c =
    let at = c.in-Some.ensures in
    let is = runs-at c.args.quads.now c.args.v c.args.w c.loop-k.k c.in-Some.at c.loop-k-test.true at.0 at.1 c.loop-k.invariant in
    rw (is, at.0) (c.loop-k-test.true, c.corner.ensures)

pub returns : goal.returns
returns c = runs-none c.args.quads.now c.args.v c.args.w (λ n h. c.loop-k.invariant n (omega arith))
