-- `write::faces_size` meets its contract: the entries so far and those of the faces that are left make the whole.
use Rattle.std.proofs.Common.{◌≡◌, ◌+◌, length}
use Rattle.base.specs.Kinds.{separator}
use Rattle.faces.specs.Faces.{faces, further}
use Rattle.faces.specs.Inner.Walk.{left}
use Rattle.winding.proofs.write.faces_size.Given as goal

abbrev pub invariant-loop-face : goal.invariant-loop-face
invariant-loop-face l = l.size + length (further separator (left l.face-iterator)) ≡ length (further separator (faces l.ids))
