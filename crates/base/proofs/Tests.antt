-- Laws that turn the outcome of a test into a fact, and what the default arm of a `match` knows.
use mathlib.Core.Path.{◌≡◌, refl}
use mathlib.Core.Bool.{Bool, true, false, ◌&&◌, ◌||◌, false≢true}
use Prim.Native.Nat.{ℕ, zero, suc, ◌≤◌, zero-le}
use native.Mathlib.Omega.{arith}

-- both parts of a test that passed
pub and-true : (a b : Bool) → (a && b) ≡ true → (a ≡ true) × (b ≡ true)
and-true true b h = (refl, h)
and-true false b h = absurd (false≢true h)

-- the number is none of 0, 1, .., n - 1
abbrev pub NoneBelow : ℕ → ℕ → Type 0
NoneBelow k zero = Unit {0}
NoneBelow k (suc n) = NoneBelow k n × (k ≡ n → ⊥)

-- the default arm of a `match` whose arms are 0, 1, .., n - 1 in this order: the number is n or more
pub past : (k n : ℕ) → NoneBelow k n → n ≤ k
past k zero r = zero-le
past k (suc n) r = let h = past k n r.0 in let ne = r.1 in omega arith

pub or_assoc : (a b c : Bool) → ((a || b) || c) ≡ (a || (b || c))
or_assoc true b c = refl
or_assoc false b c = refl

pub or-false : (a : Bool) → (a || false) ≡ a
or-false true = refl
or-false false = refl
