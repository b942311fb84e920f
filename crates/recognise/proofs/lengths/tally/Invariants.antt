-- `lengths::tally` meets its contract: what is counted and what is left to count add up to the whole.
use Prim.Native.Nat.{◌+◌}
use mathlib.Core.Path.{◌≡◌}
use Rattle.faces.specs.Faces.{faces}
use Rattle.faces.specs.Inner.Walk.{left}
use Rattle.recognise.specs.Recognise.{tally}
use Rattle.recognise.proofs.lengths.tally.Given as goal

abbrev pub invariant-loop-face : goal.invariant-loop-face
invariant-loop-face l =
    (goal.iterator-loop-face).can_next l.face-iterator × (goal.iterator-loop-face).is_finite l.face-iterator
    × (l.found + tally l.n (left l.face-iterator) ≡ tally l.n (faces l.ids))
