-- Ids chosen by a row of corner numbers, and how a row is written as digits.
use Rattle.std.specs.Prelude.{ℕ, zero, suc, ◌-◌, ◌/◌, ◌%◌, List, [], ◌∷◌, ◌++◌, map, get_or}
use Rattle.base.specs.Kinds.{separator}

-- the ids at a row of corners; a corner past the last node stands for the separator
unfoldable pub pick : List ℕ → List ℕ → List ℕ
pick ids row = map (λ corner. get_or ids corner separator) row

-- the corners of a row written in ASCII digits, 48 for 0; the colon, which follows 9, is corner 10
abbrev pub undigit : List ℕ → List ℕ
undigit row = map (λ digit. digit - 48) row

-- the last n digits of a number, in order
abbrev pub digits : ℕ → ℕ → List ℕ
digits zero number = []
digits (suc n) number = digits n (number / 10) ++ (number % 10 ∷ [])

-- rows of n corners each, one after another
abbrev pub corners : ℕ → List ℕ → List ℕ
corners n [] = []
corners n (row ∷ rows) = digits n row ++ corners n rows
