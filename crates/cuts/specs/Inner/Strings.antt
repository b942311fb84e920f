-- The tables as the code writes them: a row is one string of ASCII digits.
use Rattle.std.specs.Prelude.{ℕ, ◌+◌, ◌*◌, ◌≤◌, ◌<◌, min, cond, List, [], ◌∷◌, map, length, get_or}
use Rattle.base.specs.Gather.{digits, corners}
use Rattle.cuts.specs.Smallest.{smallest_pos, first_diagonal}
use Rattle.cuts.specs.Rows.{branch, wedge_quads, wedge_first, wedge_second, renumberings}
use Rattle.cuts.specs.Split.{quad}
use Rattle.cuts.specs.Table.{hex_table}

abbrev pub ascii : List ℕ → List ℕ
ascii row = map (λ corner. corner + 48) row

-- every digit of a string is one of n corners
abbrev pub Within : ℕ → List ℕ → Type 0
Within n string = (i : ℕ) → i < length string → (48 ≤ get_or string i 0) × (get_or string i 0 < 48 + n)

unfoldable pub hex_strings : List (List ℕ)
hex_strings = map (λ rows. ascii (corners 4 rows)) hex_table

unfoldable pub turn_strings : List (List ℕ)
turn_strings = map (λ row. ascii (digits 8 row)) renumberings

-- two tables' rows in turn
abbrev pub in_turn : List (List ℕ) → List (List ℕ) → List (List ℕ)
in_turn [] more = more
in_turn (row ∷ rows) [] = row ∷ rows
in_turn (row ∷ rows) (other ∷ more) = row ∷ other ∷ in_turn rows more

unfoldable pub wedge_strings : List (List ℕ)
wedge_strings = map (λ rows. ascii (corners 4 rows)) (in_turn wedge_first wedge_second)

unfoldable pub quad_strings : List (List ℕ)
quad_strings = map (λ row. ascii (digits 4 row)) wedge_quads

-- the place of a wedge's row, two for each place of the smallest
unfoldable pub wedge_place : List ℕ → ℕ
wedge_place ids =
    min (smallest_pos ids) 5 * 2 + cond (first_diagonal (quad ids (branch wedge_quads 0 (smallest_pos ids)))) 0 1
