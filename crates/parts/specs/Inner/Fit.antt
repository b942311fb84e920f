-- What a kind fixes: rows of digits whose corners are all there, node counts, and kinds by number.
use Rattle.std.specs.Prelude.{ℕ, ◌-◌, ◌≡◌, Bool, true, false, cond, ◌&&◌, List, [], ◌∷◌, Option, Some, None, IfSome, eqb, leb, ltb, length}
use Rattle.base.specs.Kinds.{nodes_of}
use Rattle.base.specs.Inner.Numbers.{number_of, some_unless_zero}
use Rattle.base.specs.declared.kinds.Kind.{Kind}

-- a digit for one of n corners, or the colon where corner 10 is past the last
abbrev pub fit : ℕ → ℕ → Bool
fit n digit = cond (eqb digit 58) (leb n 10) (leb 48 digit && ltb (digit - 48) n)

abbrev pub fits : ℕ → List ℕ → Bool
fits n [] = true
fits n (digit ∷ row) = fit n digit && fits n row

-- as many ids as a kind has nodes, where it fixes that
abbrev pub HasNodes : ℕ → List ℕ → Type 0
HasNodes kind ids = IfSome (some_unless_zero (nodes_of kind)) (λ n. length ids ≡ n)

-- the kind of a number, none where that is 0
abbrev pub NumberedOrNone : ℕ → Option Kind → Type 0
NumberedOrNone number None = number ≡ 0
NumberedOrNone number (Some kind) = (eqb number 0 ≡ false) × (number_of kind ≡ number)
