-- The smallest id of a list: none is below it, all before it are above it, and four comparisons find its diagonal.
use mathlib.Core.Path.{◌≡◌, refl, sym, ◌∙◌, subst}
use mathlib.Core.Bool.{Bool, true, false, cond, not, ◌&&◌, ◌||◌}
use mathlib.Core.List.{List, [], ◌∷◌}
use Prim.Native.Nat.{ℕ, zero, suc, ◌≤◌, ◌<◌}
use native.Mathlib.Nat.{le_of_suc-le-suc, not-suc-le-zero}
use native.Mathlib.Omega.{arith}
use lib.Dec.{T, leb, ltb, leb→le, nleb→lt}
use lib.ListN.{get_or, length}
use borrow.Author.Tests.{leb-true, leb-false, le-leb, lt-ltb, le-ltb}
use Rattle.cuts.proofs.Laws.{and_left, and_right}
use Rattle.cuts.specs.Smallest.{le_all, smallest_pos, on_first, first_diagonal}

le_all_at : (x : ℕ) (ys : List ℕ) → T (le_all x ys) → (k : ℕ) → k < length ys → x ≤ get_or ys k 0
le_all_at x [] h k l = absurd (not-suc-le-zero l)
le_all_at x (y ∷ ys) h zero l = leb→le x y (and_left (leb x y) (le_all x ys) h)
le_all_at x (y ∷ ys) h (suc k) l = le_all_at x ys (and_right (leb x y) (le_all x ys) h) k (le_of_suc-le-suc l)

some_less : (x : ℕ) (ys : List ℕ) → T (not (le_all x ys)) → (k : ℕ) × (k < length ys) × (get_or ys k 0 < x)
some_less x [] h = absurd h
some_less x (y ∷ ys) h = go (leb x y) refl h (some_less x ys)
  where
    go : (b : Bool) → leb x y ≡ b → T (not (b && le_all x ys)) → (T (not (le_all x ys)) → (k : ℕ) × (k < length ys) × (get_or ys k 0 < x))
        → (k : ℕ) × (k < suc (length ys)) × (get_or (y ∷ ys) k 0 < x)
    go true e h ih = let r = ih h in (suc r.0, omega (arith, r.1), r.2)
    go false e h ih = (0, omega arith, nleb→lt x y (subst (λ (b : Bool). T (not b)) (sym e) tt))

pub smallest_in : (x : ℕ) (xs : List ℕ) → smallest_pos (x ∷ xs) < suc (length xs)
smallest_in x [] = omega arith
smallest_in x (y ∷ ys) = go (le_all x (y ∷ ys)) (smallest_in y ys)
  where
    go : (b : Bool) → smallest_pos (y ∷ ys) < suc (length ys) → cond b 0 (suc (smallest_pos (y ∷ ys))) < suc (suc (length ys))
    go true h = omega arith
    go false h = omega arith

pub smallest_least : (l : List ℕ) (k : ℕ) → k < length l → get_or l (smallest_pos l) 0 ≤ get_or l k 0
smallest_least [] k h = absurd (not-suc-le-zero h)
smallest_least (x ∷ xs) k h = go (le_all x xs) refl k h (smallest_least xs)
  where
    go : (b : Bool) → le_all x xs ≡ b → (k : ℕ) → k < suc (length xs) → ((k : ℕ) → k < length xs → get_or xs (smallest_pos xs) 0 ≤ get_or xs k 0)
        → get_or (x ∷ xs) (cond b 0 (suc (smallest_pos xs))) 0 ≤ get_or (x ∷ xs) k 0
    go true e zero h ih = omega arith
    go true e (suc k) h ih = le_all_at x xs (subst T (sym e) tt) k (le_of_suc-le-suc h)
    go false e zero h ih =
        let r = some_less x xs (subst (λ (b : Bool). T (not b)) (sym e) tt) in
        omega (arith, r.2, ih r.0 r.1)
    go false e (suc k) h ih = ih k (le_of_suc-le-suc h)

pub smallest_first : (l : List ℕ) (k : ℕ) → k < smallest_pos l → get_or l (smallest_pos l) 0 < get_or l k 0
smallest_first [] k h = absurd (not-suc-le-zero h)
smallest_first (x ∷ xs) k h = go (le_all x xs) refl k h (smallest_first xs)
  where
    go : (b : Bool) → le_all x xs ≡ b → (k : ℕ) → k < cond b 0 (suc (smallest_pos xs)) → ((k : ℕ) → k < smallest_pos xs → get_or xs (smallest_pos xs) 0 < get_or xs k 0)
        → get_or (x ∷ xs) (cond b 0 (suc (smallest_pos xs))) 0 < get_or (x ∷ xs) k 0
    go true e k h ih = absurd (not-suc-le-zero h)
    go false e zero h ih =
        let r = some_less x xs (subst (λ (b : Bool). T (not b)) (sym e) tt) in
        omega (arith, r.2, smallest_least xs r.0 r.1)
    go false e (suc k) h ih = ih k (le_of_suc-le-suc h)

module _ (a b c d : ℕ) where
  -- the smallest of b, c, d is c
  past_first : (s t u : Bool) → leb b c ≡ s → leb b d ≡ t → leb c d ≡ u
      → (u && ltb c b) ≡ on_first (suc (cond (s && (t && true)) 0 (suc (cond (u && true) 0 1))))
  past_first true true true p q r = rw (le-ltb c b (leb-true b c p))
  past_first true true false p q r = refl
  past_first true false true p q r = absurd (omega (arith, leb-true b c p, leb-false b d q, leb-true c d r))
  past_first true false false p q r = refl
  past_first false t true p q r = rw (lt-ltb c b (leb-false b c p))
  past_first false t false p q r = refl

  pub by_comparisons : ((leb a b && leb a d) || (leb c d && ltb c b)) ≡ first_diagonal (a ∷ b ∷ c ∷ d ∷ [])
  by_comparisons = go (leb a b) (leb a c) (leb a d) refl refl refl
    where
      rest : (leb c d && ltb c b) ≡ on_first (suc (smallest_pos (b ∷ c ∷ d ∷ [])))
      rest = past_first (leb b c) (leb b d) (leb c d) refl refl refl

      go : (p q r : Bool) → leb a b ≡ p → leb a c ≡ q → leb a d ≡ r
          → ((p && r) || (leb c d && ltb c b)) ≡ on_first (cond (p && (q && (r && true))) 0 (suc (smallest_pos (b ∷ c ∷ d ∷ []))))
      go true true true e f g = refl
      go true true false e f g = rest
      go true false true e f g =
          let low = leb-false a c f in
          let h : c ≤ d = omega (arith, leb-true a d g) in
          let k : c < b = omega (arith, leb-true a b e) in
          let both : (leb c d && ltb c b) ≡ true = rw (le-leb c d h, lt-ltb c b k) in
          sym both ∙ rest
      go true false false e f g = rest
      go false q r e f g = rest
