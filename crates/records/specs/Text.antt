-- The text of an answer as bytes: decimal numbers, single blanks, a line feed behind every line
-- (document 01, 'Records and the splitting program').
use Rattle.std.specs.Prelude.{ℕ, zero, suc, ◌+◌, ◌*◌, ◌/◌, cond, List, [], ◌∷◌, ◌++◌, map, ltb, take, drop}
use Rattle.base.specs.Gather.{digits}
use Rattle.base.specs.Kinds.{nodes_of}
use Rattle.base.specs.declared.refusals.Answer.{Answer}

abbrev pub blank : ℕ
blank = 32

abbrev pub line_feed : ℕ
line_feed = 10

-- how many digits a number has that has at most k
unfoldable pub places_in : ℕ → ℕ → ℕ
places_in zero n = 0
places_in (suc k) n = cond (ltb n 10) 1 (suc (places_in k (n / 10)))

-- a number of 64 bits has at most 20
unfoldable pub places : ℕ → ℕ
places n = places_in 20 n

-- the last k digits of a number as text: `0` to `9` are 48 to 57
unfoldable pub spelled : ℕ → ℕ → List ℕ
spelled k n = map (λ d. 48 + d) (digits k n)

-- a number in decimal
unfoldable pub decimal : ℕ → List ℕ
decimal n = spelled (places n) n

-- each number behind a blank
unfoldable pub spaced : List ℕ → List ℕ
spaced [] = []
spaced (n ∷ ns) = (blank ∷ decimal n) ++ spaced ns

-- a line: numbers with single blanks between them
unfoldable pub line : ℕ → List ℕ → List ℕ
line first others = decimal first ++ (spaced others ++ (line_feed ∷ []))

-- the lines of the first k simplexes: kind, ids
unfoldable pub simplex_lines : ℕ → List ℕ → ℕ → List ℕ
simplex_lines kind ids zero = []
simplex_lines kind ids (suc k) =
    simplex_lines kind ids k ++ line kind (take (nodes_of kind) (drop (k * nodes_of kind) ids))

-- a record's text: its number, the refusal, the count of simplexes; then a line for each simplex of the answer
unfoldable pub record_text : ℕ → Answer → List ℕ → List ℕ
record_text number answer ids =
    line number (answer.refusal ∷ answer.count ∷ []) ++ simplex_lines answer.kind ids answer.count

-- the last line: `end` and the records begun
unfoldable pub end_text : ℕ → List ℕ
end_text begun = (101 ∷ 110 ∷ 100 ∷ []) ++ (spaced (begun ∷ []) ++ (line_feed ∷ []))
