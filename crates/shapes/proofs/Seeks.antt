-- Laws of a search: where it ends, as the code finds it; and of the search for the fourth node of a tetrahedron.
use Prim.Native.Nat.{ℕ, zero, suc, ◌+◌, ◌≤◌, ◌<◌}
use mathlib.Core.Path.{◌≡◌, refl}
use mathlib.Core.List.{List}
use mathlib.Core.Bool.{Bool, true, false, not}
use native.Mathlib.Numerals.{add-one}
use native.Mathlib.Omega.{arith}
use lib.Dec.{eqb}
use lib.ListN.{length, get_or, drop}
use lib.Seq.{drop-cons}
use borrow.Author.Tests.{eqb-true, eqb-false, ne_eqb}
use Rattle.std.specs.Prelude.{Option, Some, None, MatchOption}
use Rattle.shapes.specs.Seek.{seek}
use Rattle.shapes.specs.Tet.{in_triangle, fourth}
use Rattle.shapes.specs.Wedge.{runs_at, runs_in}
use Rattle.shapes.specs.Inner.Made.{SomeBelow}

-- the search ends at j, where the test holds, if it fails at those before
pub seek_is : (test : ℕ → Bool) (i n j : ℕ) → i ≤ j → j < i + n → test j ≡ true
    → ((k : ℕ) → i ≤ k → k < j → test k ≡ false) → seek test i n ≡ j
unfolding seek
seek_is test i zero j low high here before = absurd (omega arith)
seek_is test i (suc n) j low high here before = go (eqb j i) refl (seek_is test (suc i) n j)
  where
    go : (s : Bool) → eqb j i ≡ s
        → (suc i ≤ j → j < suc i + n → test j ≡ true → ((k : ℕ) → suc i ≤ k → k < j → test k ≡ false) → seek test (suc i) n ≡ j)
        → seek test i (suc n) ≡ j
    go true e later = let q = eqb-true j i e in rw (← q, here) refl
    go false e later =
        let q = eqb-false j i e in
        rw (before i (omega arith) (omega arith))
        (later (omega arith) (omega arith) here (λ k l h. before k (omega arith) h))

-- and at none, if it fails at all
pub seek-none : (test : ℕ → Bool) (i n : ℕ) → ((k : ℕ) → i ≤ k → k < i + n → test k ≡ false) → seek test i n ≡ i + n
unfolding seek
seek-none test i zero all = omega arith
seek-none test i (suc n) all =
    let e = seek-none test (suc i) n (λ k l h. all k (omega arith) (omega arith)) in
    rw (all i (omega arith) (omega arith)) (omega (arith, e))

-- what `find` over i, i + 1, .. finds
pub seek_found : (test : ℕ → Bool) (i n : ℕ) (r : Option ℕ)
    → MatchOption r ((k : ℕ) → i ≤ k → k < i + n → test k ≡ false)
    (λ j. (i ≤ j) × (j < i + n) × (test j ≡ true) × ((k : ℕ) → i ≤ k → k < j → test k ≡ false))
    → SomeBelow (i + n) (seek test i n) r
seek_found test i n None all = seek-none test i n all
seek_found test i n (Some j) h = (seek_is test i n j h.0 h.1 h.2 h.3, h.1)

-- the first quad that runs v to w is quad k, or none of the three is
module _ (quads : List ℕ) (v w : ℕ) where
  pub runs-at : (k i : ℕ) → k < 3 → runs_at quads k v w ≡ i → i < 4 → ((n : ℕ) → n < k → runs_at quads n v w ≡ 4) → runs_in quads v w ≡ k
  unfolding runs_in
  runs-at k i h e l before =
      seek_is (λ n. not (eqb (runs_at quads n v w) 4)) 0 3 k (omega arith) h (rw (e, ne_eqb i 4 (λ q. omega arith)))
      (λ n p q. rw (before n q))

  pub runs-none : ((n : ℕ) → n < 3 → runs_at quads n v w ≡ 4) → runs_in quads v w ≡ 3
  unfolding runs_in
  runs-none all = seek-none (λ n. not (eqb (runs_at quads n v w) 4)) 0 3 (λ n p q. rw (all n q))

-- what a node at m in the triangle a b c leaves to search, and where the search ends
module _ (a b c m : ℕ) (nodes : List ℕ) where
  pub fourth_on : m < length nodes → in_triangle a b c (get_or nodes m 0) ≡ true
      → fourth a b c (drop m nodes) ≡ fourth a b c (drop (m + 1) nodes)
  unfolding fourth
  fourth_on h t = rw (drop-cons nodes m 0 h, t, add-one)

  pub fourth_here : m < length nodes → in_triangle a b c (get_or nodes m 0) ≡ false
      → fourth a b c (drop m nodes) ≡ get_or nodes m 0
  unfolding fourth
  fourth_here h t = rw (drop-cons nodes m 0 h, t)
