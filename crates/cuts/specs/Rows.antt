-- The rows of corners by which each kind is cut, a simplex a row, as document 01 prints them.
use Rattle.std.specs.Prelude.{ℕ, ◌+◌, ◌*◌, ◌-◌, min, Bool, true, false, cond, List, [], ◌∷◌, get_or, length}

abbrev pub vertex_rows : List ℕ
vertex_rows = 0 ∷ []

-- whether the smallest stands at 0
abbrev pub seg_rows : Bool → List ℕ
seg_rows true = 01 ∷ []
seg_rows false = 10 ∷ []

abbrev pub tri_rows : List ℕ
tri_rows = 012 ∷ []

-- whether the smallest stands on the first diagonal
abbrev pub quad_rows : Bool → List ℕ
quad_rows true = 023 ∷ 012 ∷ []
quad_rows false = 013 ∷ 231 ∷ []

abbrev pub tet_rows : List ℕ
tet_rows = 0123 ∷ []

-- the entry of a table at the place of the smallest; a place past the table counts as its last
abbrev pub branch : {A : Type 0} → List A → A → ℕ → A
branch table filler place = get_or table (min place (length table - 1)) filler

-- by the place of a wedge's smallest: the quad that is left, in the order in which it is searched
abbrev pub wedge_quads : List ℕ
wedge_quads = 1254 ∷ 2035 ∷ 0143 ∷ 1254 ∷ 2035 ∷ 0143 ∷ []

-- the rows where the smallest of that quad stands on its first diagonal
abbrev pub wedge_first : List (List ℕ)
wedge_first =
    (0453 ∷ 0154 ∷ 0512 ∷ [])
    ∷ (1534 ∷ 1235 ∷ 1320 ∷ [])
    ∷ (2345 ∷ 2043 ∷ 2401 ∷ [])
    ∷ (3210 ∷ 3154 ∷ 3512 ∷ [])
    ∷ (4021 ∷ 4235 ∷ 4320 ∷ [])
    ∷ (5102 ∷ 5043 ∷ 5401 ∷ [])
    ∷ []

-- the rows where it stands on the second
abbrev pub wedge_second : List (List ℕ)
wedge_second =
    (0453 ∷ 0241 ∷ 0425 ∷ [])
    ∷ (1534 ∷ 1052 ∷ 1503 ∷ [])
    ∷ (2345 ∷ 2431 ∷ 2130 ∷ [])
    ∷ (3210 ∷ 3241 ∷ 3425 ∷ [])
    ∷ (4021 ∷ 4052 ∷ 4503 ∷ [])
    ∷ (5102 ∷ 5130 ∷ 5314 ∷ [])
    ∷ []

-- by the place of a brick's smallest: how the brick is renumbered
abbrev pub renumberings : List ℕ
renumberings = 01234567 ∷ 12305674 ∷ 23016745 ∷ 30127456 ∷ 47650321 ∷ 54761032 ∷ 65472103 ∷ 76543210 ∷ []

-- the rows of a renumbered brick, by the diagonals of 4567, 1265 and 2376 that hold their smallest
abbrev pub hex_rows : List (List ℕ)
hex_rows =
    (0564 ∷ 0126 ∷ 0165 ∷ 0674 ∷ 0237 ∷ 0276 ∷ [])  -- 46, 16, 27
    ∷ (0564 ∷ 0126 ∷ 0165 ∷ 0674 ∷ 0637 ∷ 0236 ∷ [])  -- 46, 16, 36
    ∷ (0564 ∷ 0125 ∷ 0526 ∷ 0674 ∷ 0237 ∷ 0276 ∷ [])  -- 46, 25, 27
    ∷ (0564 ∷ 0125 ∷ 0526 ∷ 0674 ∷ 0637 ∷ 0236 ∷ [])  -- 46, 25, 36
    ∷ (0574 ∷ 0165 ∷ 0675 ∷ 0126 ∷ 0723 ∷ 0762 ∷ [])  -- 57, 16, 27
    ∷ (0574 ∷ 0165 ∷ 0675 ∷ 0126 ∷ 0637 ∷ 0236 ∷ [])  -- 57, 16, 36
    ∷ (0574 ∷ 0125 ∷ 2675 ∷ 0237 ∷ 0527 ∷ [])  -- 57, 25, 27
    ∷ (0574 ∷ 0567 ∷ 0637 ∷ 0125 ∷ 0652 ∷ 0362 ∷ [])  -- 57, 25, 36
    ∷ []

-- the place of a brick's row: the first diagonal counts 0 and the second 1, as the digits of a number to the base 2
abbrev pub case_of : Bool → Bool → Bool → ℕ
case_of on46 on16 on27 = cond on46 0 1 * 4 + cond on16 0 1 * 2 + cond on27 0 1
