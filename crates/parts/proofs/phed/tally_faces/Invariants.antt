-- `phed::tally_faces` meets its contract: what is counted and what is left make up the whole.
use mathlib.Core.Path.{◌≡◌}
use mathlib.Core.List.{flatten}
use Prim.Native.Nat.{◌+◌}
use lib.ListN.{length}
use Rattle.faces.specs.Faces.{faces}
use Rattle.faces.specs.Inner.Walk.{left}
use Rattle.parts.proofs.phed.tally_faces.Given as goal

abbrev pub invariant-loop-face : goal.invariant-loop-face
invariant-loop-face l =
    (goal.iterator-loop-face).can_next l.face-iterator ×
    (goal.iterator-loop-face).is_finite l.face-iterator
    × (l.tally.faces + length (left l.face-iterator) ≡ length (faces l.ids))
    × (l.tally.entries + length (flatten (left l.face-iterator)) ≡ length (flatten (faces l.ids)))
