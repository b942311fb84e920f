-- `Cycle::signed_area2` meets its contract: `from` is the point of the node that the next edge starts in, and the sum so
-- far, over the edges from there on, gives the whole cycle's.
use Rattle.std.proofs.Common.{◌≡◌, get_or, drop}
use Rattle.faces.specs.Edges.{along, cycle}
use Rattle.winding.specs.Inner.Places.{in_plane}
use Rattle.winding.specs.Points.{point_at}
use Rattle.winding.specs.Plane.{zero64, area_from}
use Rattle.winding.proofs.Round.{head}
use Rattle.winding.proofs.plane.Cycle.signed_area2.Given as goal

abbrev pub invariant-loop-id : goal.invariant-loop-id
invariant-loop-id l =
    (in_plane l.from ≡ point_at l.points 2 (get_or l.self.ids.now l.id-index 0))
    × (area_from l.points l.area2 (along (head l.self.ids.now) (drop l.id-index l.self.ids.now)) ≡ area_from l.points zero64 (cycle l.self.ids.now))
