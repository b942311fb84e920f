-- Inputs of every way in which `reorient` ends, and what it answers; the halving that turns the smallest negative sum into -0.
use Rattle.std.proofs.Common.{◌≡◌, ℕ, true, cond, eqb, List, [], ◌∷◌, map, length, pos, refl}
use lib.Ieee.{Float, fin, binary64, of_int, of_bits, lt, ne, add, sub, mul, div, round}
use Rattle.base.specs.Kinds.{separator, nodes_of}
use Rattle.base.specs.Checks.{element_refusal, input_refusal, element_fits, strays, holds_separator}
use Rattle.faces.specs.Faces.{faces, runs, full, joined, further}
use Rattle.faces.specs.Edges.{along, cycle}
use Rattle.winding.specs.Points.{points_fit, lacks_point}
use Rattle.winding.specs.Plane.{zero64, area_from, signed_area2, wound_in_plane}
use Rattle.winding.specs.Reference.{insert, rising, add_point, sum_from, reference_of}
use Rattle.winding.specs.Space.{add_edge, normal_from, normal_of, dot_from, looks_in, wound_in_space}
use Rattle.winding.specs.Reorient.{turns_in_plane, turns_in_space, has_no_rule, wants_point, reorient_refusal, reoriented}

-- ---- the halving

-- 0 0, 0 t, 1 0 where t is the smallest positive number
abbrev tiny : List Float
tiny =
    zero64 ∷ zero64
    ∷ zero64 ∷ of_bits binary64 1
    ∷ of_int binary64 (pos 1) ∷ zero64
    ∷ []

-- the sum is below zero, its half is -0, and the list stays
pub halving_counts : (lt (area_from tiny zero64 (cycle (0 ∷ 1 ∷ 2 ∷ []))) zero64 ≡ true)
    × (signed_area2 tiny (0 ∷ 1 ∷ 2 ∷ []) ≡ fin true 0 (pos 0))
    × (wound_in_plane tiny (0 ∷ 1 ∷ 2 ∷ []) ≡ 0 ∷ 1 ∷ 2 ∷ [])
unfolding along area_from signed_area2 wound_in_plane add sub mul div lt of_bits of_int
halving_counts = (refl, refl, refl)

-- ---- the operation

-- kind, list, dimension and point list, and the refusal, or 0 and the answer
pub record Example : Type 0 where
  pub kind : ℕ
  pub ids : List ℕ
  pub dimension : ℕ
  pub points : List Float
  pub refusal : ℕ
  pub answer : List ℕ

abbrev ex : ℕ → List ℕ → ℕ → List Float → ℕ → List ℕ → Example
ex kind ids dimension points refusal answer =
    record { kind = kind; ids = ids; dimension = dimension; points = points; refusal = refusal; answer = answer }

abbrev num : ℕ → Float
num n = of_int binary64 (pos n)

-- 0 0, 1 0, 1 1, 0 1: counter-clockwise
abbrev square : List Float
square = num 0 ∷ num 0 ∷ num 1 ∷ num 0 ∷ num 1 ∷ num 1 ∷ num 0 ∷ num 1 ∷ []

-- the origin and a unit along each axis
abbrev corner : List Float
corner = num 0 ∷ num 0 ∷ num 0 ∷ num 1 ∷ num 0 ∷ num 0 ∷ num 0 ∷ num 1 ∷ num 0 ∷ num 0 ∷ num 0 ∷ num 1 ∷ []

abbrev pub examples : List Example
examples =
    -- in the plane
    ex 5 (0 ∷ 1 ∷ 2 ∷ []) 2 square 0 (0 ∷ 1 ∷ 2 ∷ [])
    ∷ ex 5 (2 ∷ 1 ∷ 0 ∷ []) 2 square 0 (0 ∷ 1 ∷ 2 ∷ [])
    ∷ ex 8 (3 ∷ 2 ∷ 1 ∷ 0 ∷ []) 2 square 0 (0 ∷ 1 ∷ 2 ∷ 3 ∷ [])
    ∷ ex 18 (1 ∷ []) 2 square 0 (1 ∷ [])
    -- in space: the second and the last face look in; idle separators vanish
    ∷ ex 19 (0 ∷ 2 ∷ 1 ∷ separator ∷ 3 ∷ 1 ∷ 0 ∷ separator ∷ separator ∷ 0 ∷ 3 ∷ 2 ∷ separator ∷ 3 ∷ 2 ∷ 1 ∷ separator ∷ []) 3 corner 0
    (0 ∷ 2 ∷ 1 ∷ separator ∷ 0 ∷ 1 ∷ 3 ∷ separator ∷ 0 ∷ 3 ∷ 2 ∷ separator ∷ 1 ∷ 2 ∷ 3 ∷ [])
    ∷ ex 19 (separator ∷ []) 3 corner 0 []
    -- copied, with no need of points
    ∷ ex 19 (separator ∷ 9 ∷ separator ∷ []) 2 square 0 (separator ∷ 9 ∷ separator ∷ [])
    ∷ ex 5 (7 ∷ 8 ∷ 9 ∷ []) 3 corner 0 (7 ∷ 8 ∷ 9 ∷ [])
    ∷ ex 11 (9 ∷ 8 ∷ 7 ∷ 6 ∷ []) 2 square 0 (9 ∷ 8 ∷ 7 ∷ 6 ∷ [])
    -- 3 before 20, 20 for every kind and before 6 and 19, 6, 19
    ∷ ex 5 (0 ∷ 1 ∷ []) 1 square 3 []
    ∷ ex 1 (0 ∷ []) 1 square 20 []
    ∷ ex 1 (0 ∷ []) 0 [] 20 []
    ∷ ex 1 (0 ∷ []) 3 square 20 []
    ∷ ex 11 (0 ∷ 1 ∷ 2 ∷ 3 ∷ []) 3 square 20 []
    ∷ ex 5 (0 ∷ 1 ∷ 9 ∷ []) 3 square 20 []
    ∷ ex 11 (0 ∷ 1 ∷ 2 ∷ 3 ∷ []) 3 corner 6 []
    ∷ ex 5 (0 ∷ 1 ∷ 4 ∷ []) 2 square 19 []
    ∷ ex 19 (0 ∷ 1 ∷ separator ∷ 4 ∷ []) 3 corner 19 []
    ∷ ex 18 (9223372036854775808 ∷ []) 2 square 19 []
    ∷ []

-- what the operation makes of an example's input
abbrev ends : Example → Example
ends e =
    let why = reorient_refusal e.kind e.ids e.dimension (length e.points) in
    ex e.kind e.ids e.dimension e.points why
    (cond (eqb why 0) (reoriented e.kind e.ids e.dimension e.points) [])

pub examples_hold : map ends examples ≡ examples
unfolding reorient_refusal element_refusal input_refusal element_fits strays holds_separator nodes_of points_fit has_no_rule wants_point turns_in_plane turns_in_space lacks_point reoriented wound_in_plane signed_area2 area_from along wound_in_space faces runs full joined further looks_in dot_from normal_of normal_from add_edge reference_of sum_from add_point rising insert add sub mul div lt ne round of_int
examples_hold = refl
