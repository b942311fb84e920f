-- Winding in space: each face of a polyhedron is turned so that it looks away from the reference point.
use Rattle.std.specs.Prelude.{ℕ, zero, suc, ◌^◌, Bool, true, false, cond, List, [], ◌∷◌, map, pos, slice_index, Float}
use Rattle.std.specs.Float.{nan, inf, fin, binary64}
use Rattle.std.specs.Float.Ieee.{round, add, sub, mul, lt, ne}
use Rattle.base.specs.Kinds.{separator}
use Rattle.faces.specs.Faces.{faces, joined}
use Rattle.faces.specs.Edges.{Edge, cycle}
use Rattle.winding.specs.declared.point.Vector.{Vector}
use Rattle.winding.specs.Points.{Point, Plane, Space, point_at}
use Rattle.winding.specs.Plane.{zero64}
use Rattle.winding.specs.Reference.{zero_vector, reference_of}
use Rattle.winding.specs.Turn.{turned}

-- one edge's part of the Newell normal, differences times sums, added to what there is
unfoldable pub add_edge : Vector → Point → Point → Vector
add_edge n (Plane ax ay) to = n
add_edge n (Space ax ay az) (Plane bx by) = n
add_edge n (Space ax ay az) (Space bx by bz) = record {
  x = add binary64 n.x (mul binary64 (sub binary64 ay by) (add binary64 az bz));
  y = add binary64 n.y (mul binary64 (sub binary64 az bz) (add binary64 ax bx));
  z = add binary64 n.z (mul binary64 (sub binary64 ax bx) (add binary64 ay by));
}

-- that of every edge, added one after another
unfoldable pub normal_from : List Float → Vector → List Edge → Vector
normal_from points n [] = n
normal_from points n (e ∷ es) = normal_from points (add_edge n (point_at points 3 e.from) (point_at points 3 e.to)) es

-- the normal of a face: the sum round its cycle
unfoldable pub normal_of : List Float → List ℕ → Vector
normal_of points face = normal_from points zero_vector (cycle face)

-- the normal dotted with (p - reference), the three products added from the left
unfoldable pub dot_from : Vector → Point → Vector → Float
dot_from n (Plane x y) reference = zero64
dot_from n (Space x y z) reference =
    add binary64
    (add binary64 (mul binary64 n.x (sub binary64 x reference.x)) (mul binary64 n.y (sub binary64 y reference.y)))
    (mul binary64 n.z (sub binary64 z reference.z))

-- the size of a number: its sign cleared
abbrev pub size_of : Float → Float
size_of nan = nan
size_of (inf s) = inf false
size_of (fin s zero e) = fin false zero (pos 0)
size_of (fin s (suc m) e) = fin false (suc m) e

-- the larger; where one is not a number, the other
abbrev pub larger : Float → Float → Float
larger a b = cond (lt a b) b (cond (ne a a) b a)

-- the largest size of the parts
abbrev pub scale_of : Vector → Float
scale_of n = larger (larger (size_of n.x) (size_of n.y)) (size_of n.z)

-- -1e-12: the number nearest to -1 / 10^12
abbrev pub tolerance : Float
tolerance = round binary64 true 1 (10 ^ 12)

-- a face looks in: its normal dotted with (first node - reference) is below the tolerance times its scale
unfoldable pub looks_in : List Float → Vector → List ℕ → Bool
looks_in points reference face =
    lt (dot_from (normal_of points face) (point_at points 3 (slice_index face 0)) reference)
    (mul binary64 tolerance (scale_of (normal_of points face)))

-- a face, turned if it looks in
abbrev pub outward : List Float → Vector → List ℕ → List ℕ
outward points reference face = turned (looks_in points reference face) face

-- the faces, each looking out; empty runs are none, and no face gives an empty list
unfoldable pub wound_in_space : List Float → List ℕ → List ℕ
wound_in_space points ids = joined separator (map (λ (face : List ℕ). outward points (reference_of points ids) face) (faces ids))
