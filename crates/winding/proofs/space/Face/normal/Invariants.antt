-- `Face::normal` meets its contract: `from` is the point of the node that the next edge starts in, and the normal so far,
-- over the edges from there on, gives the whole cycle's.
use Rattle.std.proofs.Common.{◌≡◌, get_or, drop}
use Rattle.faces.specs.Edges.{along, cycle}
use Rattle.winding.specs.Inner.Places.{in_space}
use Rattle.winding.specs.Points.{point_at}
use Rattle.winding.specs.Reference.{zero_vector}
use Rattle.winding.specs.Space.{normal_from}
use Rattle.winding.proofs.Round.{head}
use Rattle.winding.proofs.space.Face.normal.Given as goal

abbrev pub invariant-loop-id : goal.invariant-loop-id
invariant-loop-id l =
    (in_space l.from ≡ point_at l.points 3 (get_or l.self.ids.now l.id-index 0))
    × (normal_from l.points l.normal (along (head l.self.ids.now) (drop l.id-index l.self.ids.now)) ≡ normal_from l.points zero_vector (cycle l.self.ids.now))
