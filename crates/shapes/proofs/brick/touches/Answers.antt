-- `brick::touches` meets its contract: it is the definition.
use Rattle.shapes.specs.Brick.{touches}
use Rattle.shapes.proofs.brick.touches.Goals as goal

pub returns : goal.returns
unfolding touches
returns c = cc
