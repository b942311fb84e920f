-- `lengths::other_length` meets its contract: the faces passed have a or b nodes, so what is left decides.
use mathlib.Core.Path.{◌≡◌}
use Rattle.faces.specs.Faces.{faces}
use Rattle.faces.specs.Inner.Walk.{left}
use Rattle.recognise.specs.Recognise.{other_length}
use Rattle.recognise.proofs.lengths.other_length.Given as goal

abbrev pub invariant-loop-face : goal.invariant-loop-face
invariant-loop-face l =
    (goal.iterator-loop-face).can_next l.face-iterator × (goal.iterator-loop-face).is_finite l.face-iterator
    × (other_length l.a l.b (left l.face-iterator) ≡ other_length l.a l.b (faces l.ids))
