-- Laws of tests that the checker computes, and of the tables of rows.
use mathlib.Core.Path.{◌≡◌, refl, sym, ap₂, subst}
use mathlib.Core.Bool.{Bool, true, false, ◌&&◌, ◌||◌}
use mathlib.Core.List.{List, [], ◌∷◌, map}
use Prim.Native.Nat.{ℕ, zero, suc, ◌<◌, min}
use native.Mathlib.Nat.{le_of_suc-le-suc, not-suc-le-zero}
use native.Mathlib.Omega.{arith}
use lib.Dec.{T, eqb, eqb→eq}
use lib.ListN.{length, get_or}
use borrow.Author.Tests.{eq-eqb, eqb-true, eqb-false}
use Rattle.cuts.specs.Rows.{branch, hex_rows}

pub and_left : (a b : Bool) → T (a && b) → T a
and_left true b t = tt
and_left false b t = t

pub and_right : (a b : Bool) → T (a && b) → T b
and_right true b t = t
and_right false b t = absurd t

pub or_else : (a b : Bool) → (T a → ⊥) → T (a || b) → T b
or_else true b fails t = absurd (fails tt)
or_else false b fails t = t

-- the test passes at every number below n
abbrev pub below : ℕ → (ℕ → Bool) → Bool
below zero test = true
below (suc n) test = test n && below n test

pub below_at : (n : ℕ) (test : ℕ → Bool) → T (below n test) → (k : ℕ) → k < n → T (test k)
below_at zero test h k l = absurd (not-suc-le-zero l)
below_at (suc n) test h k l = go (eqb k n) refl (below_at n test (and_right (test n) (below n test) h) k)
  where
    go : (b : Bool) → eqb k n ≡ b → (k < n → T (test k)) → T (test k)
    go true e ih = subst (λ (i : ℕ). T (test i)) (sym (eqb-true k n e)) (and_left (test n) (below n test) h)
    go false e ih = let d : (k ≡ n → ⊥) = eqb-false k n e in ih (omega arith)

-- the test passes at every element
abbrev pub all {ℓ} : {A : Type ℓ} → (A → Bool) → List A → Bool
all test [] = true
all test (x ∷ xs) = test x && all test xs

pub all_at : (test : ℕ → Bool) (xs : List ℕ) → T (all test xs) → (k : ℕ) → k < length xs → T (test (get_or xs k 0))
all_at test [] h k l = absurd (not-suc-le-zero l)
all_at test (x ∷ xs) h zero l = and_left (test x) (all test xs) h
all_at test (x ∷ xs) h (suc k) l = all_at test xs (and_right (test x) (all test xs) h) k (le_of_suc-le-suc l)

-- two lists are equal, as a test
abbrev pub eqs : List ℕ → List ℕ → Bool
eqs [] [] = true
eqs [] (y ∷ ys) = false
eqs (x ∷ xs) [] = false
eqs (x ∷ xs) (y ∷ ys) = eqb x y && eqs xs ys

pub eqs_eq : (xs ys : List ℕ) → T (eqs xs ys) → xs ≡ ys
eqs_eq [] [] h = refl
eqs_eq [] (y ∷ ys) h = absurd h
eqs_eq (x ∷ xs) [] h = absurd h
eqs_eq (x ∷ xs) (y ∷ ys) h =
    ap₂ (λ (x : ℕ) (xs : List ℕ). x ∷ xs) (eqb→eq x y (and_left (eqb x y) (eqs xs ys) h)) (eqs_eq xs ys (and_right (eqb x y) (eqs xs ys) h))

abbrev pub mem : ℕ → List ℕ → Bool
mem x [] = false
mem x (y ∷ ys) = eqb x y || mem x ys

-- every element of xs is one of ys
abbrev pub sub : List ℕ → List ℕ → Bool
sub xs ys = all (λ x. mem x ys) xs

-- what is in a list stands at some place of it
pub mem_at : (x : ℕ) (xs : List ℕ) → T (mem x xs) → (k : ℕ) × (k < length xs) × (get_or xs k 0 ≡ x)
mem_at x [] h = absurd h
mem_at x (y ∷ ys) h = go (eqb x y) refl h (mem_at x ys)
  where
    go : (b : Bool) → eqb x y ≡ b → T (b || mem x ys) → (T (mem x ys) → (k : ℕ) × (k < length ys) × (get_or ys k 0 ≡ x))
        → (k : ℕ) × (k < suc (length ys)) × (get_or (y ∷ ys) k 0 ≡ x)
    go true e h ih = (0, omega arith, sym (eqb→eq x y (subst T (sym e) tt)))
    go false e h ih = let r = ih h in (suc r.0, omega (arith, r.1), r.2)

or_right : (a b : Bool) → T b → T (a || b)
or_right true b t = tt
or_right false b t = t

pub get_d_mem : (xs : List ℕ) (k : ℕ) → k < length xs → T (mem (get_or xs k 0) xs)
get_d_mem [] k h = absurd (not-suc-le-zero h)
get_d_mem (x ∷ xs) zero h = rw (eq-eqb x x refl) tt
get_d_mem (x ∷ xs) (suc k) h = or_right (eqb (get_or xs k 0) x) (mem (get_or xs k 0) xs) (get_d_mem xs k (le_of_suc-le-suc h))

pub get_d_map : (f : ℕ → ℕ) (xs : List ℕ) (k : ℕ) → k < length xs → get_or (map f xs) k 0 ≡ f (get_or xs k 0)
get_d_map f [] k h = absurd (not-suc-le-zero h)
get_d_map f (x ∷ xs) zero h = refl
get_d_map f (x ∷ xs) (suc k) h = get_d_map f xs k (le_of_suc-le-suc h)

-- a brick has six rows save in its seventh case
pub six_rows : (case : ℕ) → (case ≡ 6 → ⊥) → length (branch hex_rows [] case) ≡ 6
six_rows case h =
    let k = min case 7 in
    let n = length (branch hex_rows [] case) in
    eqb→eq n 6
    (or_else (eqb k 6) (eqb n 6) (λ t. (let e = eqb→eq k 6 t in h (omega arith)))
    (below_at 8 (λ k. eqb k 6 || eqb (length (get_or hex_rows k [])) 6) tt k (omega arith)))
