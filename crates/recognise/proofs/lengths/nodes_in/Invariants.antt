-- `lengths::nodes_in` meets its contract: what is written and what is left to write make up the whole.
use Prim.Native.Nat.{◌≤◌}
use mathlib.Core.Path.{◌≡◌}
use mathlib.Core.List.{◌++◌}
use lib.ListN.{length, take}
use Rattle.faces.specs.Faces.{faces}
use Rattle.faces.specs.Inner.Walk.{left}
use Rattle.recognise.specs.Recognise.{nodes_in}
use Rattle.recognise.proofs.lengths.nodes_in.Given as goal

abbrev pub invariant-loop-face : goal.invariant-loop-face
invariant-loop-face g l =
    (goal.iterator-loop-face g).can_next l.face-iterator × (goal.iterator-loop-face g).is_finite l.face-iterator
    × (take l.filled l.out ++ nodes_in l.n (left l.face-iterator) ≡ nodes_in l.n (faces l.ids))
    × (l.filled ≤ length l.initial.out)
