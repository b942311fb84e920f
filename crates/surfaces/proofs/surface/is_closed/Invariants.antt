-- `surface::is_closed` meets its contract: the check of the edges left, with what was counted, decides.
use Prim.Native.Nat.{◌≤◌}
use mathlib.Core.Path.{◌≡◌}
use Rattle.faces.specs.Faces.{faces}
use Rattle.faces.specs.Edges.{closed}
use Rattle.surfaces.specs.Inner.Places.{edges_from}
use Rattle.surfaces.proofs.Pairs.{paired}
use Rattle.surfaces.proofs.surface.is_closed.Given as goal

abbrev pub invariant-loop-i : goal.invariant-loop-i
invariant-loop-i l =
    (l.edges ≤ l.i) × (l.pairs ≤ l.i) × (paired l.pairs l.edges (edges_from l.ids l.i) ≡ closed (faces l.ids))
