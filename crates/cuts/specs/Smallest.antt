-- Where the smallest id of a list stands, the first place if it stands at several, and which diagonal of a quad holds it.
use Rattle.std.specs.Prelude.{ℕ, suc, Bool, true, cond, not, ◌&&◌, ◌||◌, List, [], ◌∷◌, eqb, leb}

-- no id of the list is below x
abbrev pub le_all : ℕ → List ℕ → Bool
le_all x [] = true
le_all x (y ∷ ys) = leb x y && le_all x ys

-- the first id if none is below it, else one place further on in the rest
abbrev pub smallest_pos : List ℕ → ℕ
smallest_pos [] = 0
smallest_pos (x ∷ xs) = cond (le_all x xs) 0 (suc (smallest_pos xs))

-- a place on a quad's first diagonal, from 0 to 2, and not on its second, from 1 to 3; a place past the corners counts
-- as on the first
abbrev pub on_first : ℕ → Bool
on_first place = not (eqb place 1 || eqb place 3)

-- the smallest id stands on the first diagonal
abbrev pub first_diagonal : List ℕ → Bool
first_diagonal ids = on_first (smallest_pos ids)
