-- `laid::is_face` meets its contract: where nodes alone were passed, the face left decides.
use Prim.Native.Nat.{◌+◌, ◌-◌}
use mathlib.Core.Path.{◌≡◌}
use Rattle.recognise.specs.Inner.Laid.{face_at}
use Rattle.recognise.proofs.laid.is_face.Given as goal

abbrev pub invariant-loop-i : goal.invariant-loop-i
invariant-loop-i l = face_at (l.at + l.n - l.i) l.ids l.i ≡ face_at l.n l.ids l.at
