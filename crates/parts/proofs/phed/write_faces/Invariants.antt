-- `phed::write_faces` meets its contract: before each turn a front of the whole is there, and the faces ahead are the rest.
use mathlib.Core.Path.{◌≡◌}
use mathlib.Core.List.{◌++◌, flatten}
use Prim.Native.Nat.{◌≤◌}
use lib.ListN.{length, take, drop}
use Rattle.std.specs.Iterator.Adapters.{enumerate_source, enumerate_count}
use Rattle.faces.specs.Faces.{faces}
use Rattle.faces.specs.Inner.Walk.{left}
use Rattle.parts.specs.Subentities.{ends_from}
use Rattle.parts.proofs.phed.write_faces.Given as goal

abbrev pub invariant-loop-at : goal.invariant-loop-at
invariant-loop-at l =
    (goal.iterator-loop-at).can_next l.at-iterator ×
    (goal.iterator-loop-at).is_finite l.at-iterator
    × (l.written ≤ length (flatten (faces l.ids)))
    × (enumerate_count l.at-iterator ≤ length (ends_from 0 (faces l.ids)))
    × (l.out ≡ take l.written (flatten (faces l.ids)) ++ drop l.written l.initial.out)
    × (drop l.written (flatten (faces l.ids)) ≡ flatten (left (enumerate_source l.at-iterator)))
    × (l.ends ≡ take (enumerate_count l.at-iterator) (ends_from 0 (faces l.ids)) ++ drop (enumerate_count l.at-iterator) l.initial.ends)
    × (drop (enumerate_count l.at-iterator) (ends_from 0 (faces l.ids)) ≡ ends_from l.written (left (enumerate_source l.at-iterator)))
