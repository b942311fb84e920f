-- Laws of lines: what one number more, and one simplex more, add to the text.
use mathlib.Core.Path.{◌≡◌, refl}
use Prim.Native.Nat.{ℕ, zero, suc, ◌+◌, ◌*◌, ◌<◌}
use native.Mathlib.Omega.{arith}
use native.Mathlib.Numerals.{add-one}
use mathlib.Core.List.{List, [], ◌∷◌, ◌++◌, append_assoc, append-nil}
use lib.ListN.{length, get_or, take, drop}
use lib.Seq.{take-suc}
use borrow.Author.Tests.{ne_eqb}
use Rattle.std.specs.Option.{unwrap_or}
use Rattle.base.specs.Kinds.{nodes_of}
use Rattle.base.specs.Inner.Numbers.{some_unless_zero}
use Rattle.records.specs.Text.{blank, decimal, spaced, line, simplex_lines}

spaced-append : (xs ys : List ℕ) → spaced (xs ++ ys) ≡ spaced xs ++ spaced ys
unfolding spaced
spaced-append [] ys = refl
spaced-append (x ∷ xs) ys = rw (spaced-append xs ys, append_assoc)

pub spaced_more : (ns : List ℕ) (i : ℕ) → i < length ns
    → spaced (take (i + 1) ns) ≡ spaced (take i ns) ++ spaced (get_or ns i 0 ∷ [])
spaced_more ns i h = rw (add-one, take-suc ns i 0 h, spaced-append)

-- a number behind a blank
pub spaced_one : (n : ℕ) → spaced (n ∷ []) ≡ (blank ∷ []) ++ decimal n
unfolding spaced
spaced_one n = rw append-nil

pub simplexes_more : (kind : ℕ) (ids : List ℕ) (k : ℕ)
    → simplex_lines kind ids (k + 1) ≡ simplex_lines kind ids k ++ line kind (take (nodes_of kind) (drop (k * nodes_of kind) ids))
unfolding simplex_lines
simplexes_more kind ids k = rw add-one

-- a count that the paper writes as 0 for none, and the library as an option
pub unless_zero : (n : ℕ) → unwrap_or (some_unless_zero n) 0 ≡ n
unless_zero zero = refl
unless_zero (suc n) = simp (ne_eqb (suc n) 0 (omega arith))
