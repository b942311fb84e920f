-- The sum round a cycle in whole numbers, and the coordinates on which the rounded sum is exact.
use Rattle.std.specs.Prelude.{ℕ, ◌+◌, ◌*◌, ◌/◌, ◌%◌, ◌^◌, Bool, true, false, ◌&&◌, List, [], ◌∷◌, ℤ, pos, negsuc, ◌+ℤ◌, ◌-ℤ◌, ◌*ℤ◌, ◌==◌, nat_le, slice_index_or, Float}
use Rattle.std.specs.Float.{nan, inf, fin}
use Rattle.std.specs.Float.Ieee.{up, down, to_signed}
use Rattle.faces.specs.Edges.{Edge, cycle}

-- the largest size of a coordinate
abbrev pub grid_limit : ℕ
grid_limit = 2 ^ 20

-- a whole number of size at most 2^20; -0 is one
abbrev pub small_whole : Float → Bool
small_whole nan = false
small_whole (inf s) = false
small_whole (fin s m e) = m * up e % down e == 0 && nat_le (m * up e / down e) grid_limit

-- the coordinates of an id's point in the plane
abbrev pub x_of : List Float → ℕ → Float
x_of points id = slice_index_or points (id * 2) nan

abbrev pub y_of : List Float → ℕ → Float
y_of points id = slice_index_or points (id * 2 + 1) nan

-- every id of the list has such coordinates
unfoldable pub on_grid : List Float → List ℕ → Bool
on_grid points [] = true
on_grid points (id ∷ ids) = (small_whole (x_of points id) && small_whole (y_of points id)) && on_grid points ids

-- the whole number that a float is
abbrev pub whole_of : Float → ℤ
whole_of x = to_signed 63 x

-- x0 * y1 - x1 * y0 in whole numbers
abbrev pub exact_cross : List Float → Edge → ℤ
exact_cross points e =
    whole_of (x_of points e.from) *ℤ whole_of (y_of points e.to)
    -ℤ whole_of (x_of points e.to) *ℤ whole_of (y_of points e.from)

-- that of every edge, added to a sum
unfoldable pub exact_from : List Float → ℤ → List Edge → ℤ
exact_from points sum [] = sum
exact_from points sum (e ∷ es) = exact_from points (sum +ℤ exact_cross points e) es

-- the exact sum round the cycle
unfoldable pub exact_sum : List Float → List ℕ → ℤ
exact_sum points ids = exact_from points (pos 0) (cycle ids)

abbrev pub negative : ℤ → Bool
negative (pos n) = false
negative (negsuc n) = true
