-- `brick::top` meets its contract: the side face is the one at the edge found.
use Rattle.shapes.specs.Brick.{top}
use Rattle.shapes.proofs.Sought.{side_or}
use Rattle.shapes.proofs.brick.top.Goals as goal

pub returns : goal.returns
unfolding top
returns c = rw (← side_or c.args.sides.now _ _ c.home.ensures, ← c.unwrap_or.ensures) c.above.ensures
