-- `write::put_faces` meets its contract: `Written` holds at each turn of the loop.
use Rattle.std.proofs.Common.{◌≡◌, ℕ, ◌≤◌, List, length, map, arith}
use Rattle.std.specs.Prelude.{Float}
use Rattle.base.specs.Kinds.{separator}
use Rattle.faces.specs.Faces.{faces, joined}
use Rattle.faces.specs.Inner.Walk.{left}
use Rattle.winding.specs.declared.point.Vector.{Vector}
use Rattle.winding.specs.Points.{point_count}
use Rattle.winding.specs.Space.{looks_in, outward}
use Rattle.winding.proofs.Joined.{joined_length}
use Rattle.winding.proofs.Turned.{length-turned}
use Rattle.winding.proofs.Written.{Written}
use Rattle.winding.proofs.write.put_faces.Given as goal

-- the faces as they are written
module _ (points : List Float) (reference : Vector) where
  abbrev pub turn : List ℕ → List ℕ
  turn face = outward points reference face

  pub keeps : (face : List ℕ) → length (turn face) ≡ length face
  keeps face = length-turned (looks_in points reference face) face

  abbrev pub whole : List ℕ → List ℕ
  whole ids = joined separator (map turn (faces ids))

  -- the answer fits what is lent
  pub room : (ids out : List ℕ) → length (joined separator (faces ids)) ≤ length out → length (whole ids) ≤ length out
  room ids out h = omega (arith, joined_length turn keeps (faces ids))

abbrev pub invariant-loop-face : goal.invariant-loop-face
invariant-loop-face l =
    Written (point_count 3 (length l.points)) (turn l.points l.reference) (keeps l.points l.reference) (whole l.points l.reference l.fn.solid.ids.now) l.fn.out
    (left l.face-iterator) l.out l.at
