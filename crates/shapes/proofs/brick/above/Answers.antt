-- `brick::above` meets its contract: each return knows whether the neighbour before is a bottom node.
use Rattle.shapes.specs.Brick.{above}
use Rattle.shapes.proofs.Sought.{corner_or}
use Rattle.shapes.proofs.brick.above.Goals as goal

pub returns-then-in_bottom : goal.returns-then-in_bottom
unfolding above
returns-then-in_bottom c =
    let p = corner_or c.args.quads.now c.args.k _ _ c.place.ensures in
    rw (← p.1, ← p.0, ← c.unwrap_or-p.ensures, ← c.corner-before.ensures, ← c.in_bottom.ensures, c.if-in_bottom.true)
    c.corner.ensures

pub returns : goal.returns
unfolding above
returns c =
    let p = corner_or c.args.quads.now c.args.k _ _ c.place.ensures in
    rw (← p.1, ← c.unwrap_or-p.ensures, ← c.corner-before.ensures, ← c.in_bottom.ensures, c.if-in_bottom.false)
