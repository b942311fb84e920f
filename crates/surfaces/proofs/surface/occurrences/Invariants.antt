-- `surface::occurrences` meets its contract: what is counted and what is left to count add up to the whole.
use Prim.Native.Nat.{◌+◌, ◌-◌, ◌≤◌}
use mathlib.Core.Path.{◌≡◌}
use lib.ListN.{length}
use Rattle.faces.specs.Edges.{edge, count}
use Rattle.surfaces.specs.Inner.Places.{edges_from}
use Rattle.surfaces.proofs.surface.occurrences.Given as goal

abbrev pub invariant-loop-i : goal.invariant-loop-i
invariant-loop-i l =
    (l.found ≤ l.at) × (l.found + count (edge l.a l.b) (edges_from l.ids l.at) ≡ count (edge l.a l.b) (edges_from l.ids l.fn.at))

abbrev pub decreases-loop-i : goal.decreases-loop-i
decreases-loop-i l = length l.ids - l.at
