-- Winding in the plane: the signed area of a cycle of ids, in binary64, one rounding an operation.
use Rattle.std.specs.Prelude.{ℕ, false, List, [], ◌∷◌, pos, Float}
use Rattle.std.specs.Float.{fin, binary64}
use Rattle.std.specs.Float.Ieee.{add, sub, mul, div, lt}
use Rattle.faces.specs.Edges.{Edge, cycle}
use Rattle.winding.specs.Points.{Point, Plane, Space, point_at}
use Rattle.winding.specs.Turn.{turned}

abbrev pub zero64 : Float
zero64 = fin false 0 (pos 0)

abbrev pub two64 : Float
two64 = fin false 1 (pos 1)

-- x0 * y1 - x1 * y0 of two points of the plane
abbrev pub cross : Point → Point → Float
cross (Plane x0 y0) (Plane x1 y1) = sub binary64 (mul binary64 x0 y1) (mul binary64 x1 y0)
cross (Plane x0 y0) (Space x1 y1 z1) = zero64
cross (Space x0 y0 z0) to = zero64

-- that of every edge, added to a sum one after another
unfoldable pub area_from : List Float → Float → List Edge → Float
area_from points sum [] = sum
area_from points sum (e ∷ es) =
    area_from points (add binary64 sum (cross (point_at points 2 e.from) (point_at points 2 e.to))) es

-- the sum round the cycle, halved; the halving can turn the smallest negative sum into -0
unfoldable pub signed_area2 : List Float → List ℕ → Float
signed_area2 points ids = div binary64 (area_from points zero64 (cycle ids)) two64

-- the list, reversed if its area is below zero
unfoldable pub wound_in_plane : List Float → List ℕ → List ℕ
wound_in_plane points ids = turned (lt (signed_area2 points ids) zero64) ids
