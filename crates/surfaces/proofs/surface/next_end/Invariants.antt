-- `surface::next_end` meets its contract: no edge between a and b starts at the places passed.
use mathlib.Core.Path.{◌≡◌}
use Rattle.faces.specs.Edges.{edge, count}
use Rattle.surfaces.specs.Inner.Places.{edges_from}
use Rattle.surfaces.proofs.surface.next_end.Given as goal

abbrev pub invariant-loop-i : goal.invariant-loop-i
invariant-loop-i l = count (edge l.a l.b) (edges_from l.ids l.i) ≡ count (edge l.a l.b) (edges_from l.ids l.at)
