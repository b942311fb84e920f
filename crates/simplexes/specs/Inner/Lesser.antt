-- An id with its place, and the lesser of two: what the search for the smallest compares, two at a time.
use Rattle.std.specs.Prelude.{ℕ, cond, List, ltb, get_or}
use Rattle.simplexes.specs.declared.smallest.Least.{Least}

-- the id at a place
abbrev pub entry_of : List ℕ → ℕ → Least
entry_of ids place = record { place = place; id = get_or ids place 0 }

-- the lesser, the first on a tie
unfoldable pub lesser_of : Least → Least → Least
lesser_of a b = cond (ltb b.id a.id) b a
