-- `brick::has_edge` meets its contract: it is the definition.
use Rattle.shapes.specs.Brick.{has_edge}
use Rattle.shapes.proofs.brick.has_edge.Goals as goal

pub returns : goal.returns
unfolding has_edge
returns c = cc
