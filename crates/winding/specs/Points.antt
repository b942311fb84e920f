-- The points that a list of numbers gives: two numbers each in the plane, three in space. Point i belongs to id i, from 0.
use Rattle.std.specs.Prelude.{ℕ, ◌+◌, ◌*◌, ◌/◌, ◌%◌, Bool, false, cond, not, ◌&&◌, ◌||◌, List, [], ◌∷◌, ◌==◌, nat_le, slice_index_or, Float}
use Rattle.std.specs.Float.{nan}
use Rattle.base.specs.Kinds.{separator}

-- a point in the plane or in space
pub data Point : Type 0 where
  Plane : Float → Float → Point
  Space : Float → Float → Float → Point

-- n numbers are a point list: the dimension is 2 or 3, and n a multiple of it
unfoldable pub points_fit : ℕ → ℕ → Bool
points_fit dimension n = (dimension == 2 || dimension == 3) && n % dimension == 0

-- how many points n numbers give
abbrev pub point_count : ℕ → ℕ → ℕ
point_count dimension n = cond (dimension == 2) (n / 2) (n / 3)

-- the point of an id
abbrev pub point_at : List Float → ℕ → ℕ → Point
point_at points dimension id =
    cond (dimension == 2) (Plane (slice_index_or points (id * 2) nan) (slice_index_or points (id * 2 + 1) nan))
    (Space (slice_index_or points (id * 3) nan) (slice_index_or points (id * 3 + 1) nan) (slice_index_or points (id * 3 + 2) nan))

-- some id of the list has none of so many points; a separator is no id
unfoldable pub lacks_point : ℕ → List ℕ → Bool
lacks_point count [] = false
lacks_point count (id ∷ ids) = (not (id == separator) && nat_le count id) || lacks_point count ids
