-- The smallest id of a list is found by a scan from the left, and by comparing in pairs.
use mathlib.Core.Path.{◌≡◌, refl, sym, ◌∙◌, ap, subst}
use mathlib.Core.Bool.{Bool, true, false, cond}
use mathlib.Core.List.{List, [], ◌∷◌}
use Prim.Native.Nat.{ℕ, ◌+◌, ◌≤◌, ◌<◌}
use native.Mathlib.Nat.{not-suc-le-zero}
use native.Mathlib.Omega.{arith}
use lib.Dec.{ltb}
use lib.ListN.{get_or, length}
use borrow.Author.Tests.{ltb-true, ltb-false}
use borrow.Author.Count.{below_more}
use Rattle.cuts.specs.Smallest.{smallest_pos}
use Rattle.cuts.proofs.Least.{smallest_in, smallest_least, smallest_first}
use Rattle.simplexes.specs.Inner.Lesser.{entry_of, lesser_of}
use Rattle.simplexes.specs.declared.smallest.Least.{Least}

-- best is the first smallest among the first i
pub record Scanned (l : List ℕ) (best i : ℕ) : Type 0 where
  pub up_to : i ≤ length l
  pub within : best ≤ i
  pub strict : 0 < i → best < i
  pub least : (k : ℕ) → k < i → get_or l best 0 ≤ get_or l k 0
  pub first : (k : ℕ) → k < best → get_or l best 0 < get_or l k 0

module _ (l : List ℕ) where
  pub scan_start : Scanned l 0 0
  scan_start = record {
    up_to = omega arith;
    within = omega arith;
    strict = λ h. h;
    least = λ k h. absurd (not-suc-le-zero h);
    first = λ k h. absurd (not-suc-le-zero h);
  }

  module _ (best i : ℕ) (s : Scanned l best i) (h : i < length l) where
    pub scan_new : get_or l i 0 < get_or l best 0 → Scanned l i (i + 1)
    scan_new n = record {
      up_to = omega arith;
      within = omega arith;
      strict = λ _. omega arith;
      least = below_more (λ (k : ℕ). get_or l i 0 ≤ get_or l k 0) i (λ k k<. omega (arith, s.least k k<)) (omega arith);
      first = λ k k<. omega (arith, s.least k k<);
    }

    pub scan_keep : get_or l best 0 ≤ get_or l i 0 → Scanned l best (i + 1)
    scan_keep n = record {
      up_to = omega arith;
      within = omega (arith, s.within);
      strict = λ _. omega (arith, s.within);
      least = below_more (λ (k : ℕ). get_or l best 0 ≤ get_or l k 0) i s.least n;
      first = s.first;
    }

pub scan_end : (l : List ℕ) (best i : ℕ) → Scanned l best i → length l ≤ i → best ≡ smallest_pos l
scan_end [] best i s h = omega (arith, s.within, s.up_to)
scan_end (x ∷ xs) best i s h = go (ltb best p) refl (ltb p best) refl
  where
    l : List ℕ
    l = x ∷ xs

    p : ℕ
    p = smallest_pos l

    go : (b : Bool) → ltb best p ≡ b → (c : Bool) → ltb p best ≡ c → best ≡ p
    go true e c e' = absurd (omega (arith, smallest_first l best (ltb-true best p e), s.least p (omega (arith, smallest_in x xs))))
    go false e true e' = absurd (omega (arith, s.first p (ltb-true p best e'), smallest_least l best (omega (arith, s.up_to, s.strict (omega arith)))))
    go false e false e' = omega (arith, ltb-false best p e, ltb-false p best e')

-- x is the first smallest among those from `from` to before `to`
pub record Held (l : List ℕ) (from to : ℕ) (x : Least) : Type 0 where
  pub above : from ≤ x.place
  pub below : x.place < to
  pub there : x.id ≡ get_or l x.place 0
  pub least : (k : ℕ) → from ≤ k → k < to → x.id ≤ get_or l k 0
  pub first : (k : ℕ) → from ≤ k → k < x.place → x.id < get_or l k 0

module _ (l : List ℕ) where
  pub held_one : (i : ℕ) → Held l i (i + 1) (entry_of l i)
  held_one i = record {
    above = omega arith;
    below = omega arith;
    there = refl;
    least = λ k h h'. (let e : k ≡ i = omega arith in rw e (omega arith));
    first = λ k h h'. absurd (omega arith);
  }

  -- the lesser of two neighbouring ranges' is that of both
  pub held_both : (from mid to : ℕ) (x y : Least) → Held l from mid x → Held l mid to y → Held l from to (lesser_of x y)
  unfolding lesser_of
  held_both from mid to x y p q = go (ltb y.id x.id) refl
    where
      either : (z : ℕ) (R : ℕ → Type 0) (k : ℕ) → (k < z → R k) → (z ≤ k → R k) → R k
      either z R k low high = pick (ltb k z) refl
        where
          pick : (b : Bool) → ltb k z ≡ b → R k
          pick true e = low (ltb-true k z e)
          pick false e = high (ltb-false k z e)

      go : (b : Bool) → ltb y.id x.id ≡ b → Held l from to (cond b y x)
      go true e =
          let less = ltb-true y.id x.id e in
          record {
            above = omega (arith, p.above, p.below, q.above);
            below = q.below;
            there = q.there;
            least = λ k h h'. either mid (λ k. y.id ≤ get_or l k 0) k (λ low. omega (arith, p.least k h low)) (λ high. q.least k high h');
            first = λ k h h'. either mid (λ k. y.id < get_or l k 0) k (λ low. omega (arith, p.least k h low)) (λ high. q.first k high h');
          }
      go false e =
          let more = ltb-false y.id x.id e in
          record {
            above = p.above;
            below = omega (arith, p.below, q.above, q.below);
            there = p.there;
            least = λ k h h'. either mid (λ k. x.id ≤ get_or l k 0) k (λ low. p.least k h low) (λ high. omega (arith, q.least k high h'));
            first = p.first;
          }

  -- of the whole list it is the smallest
  pub held_all : (x : Least) → Held l 0 (length l) x → x.place ≡ smallest_pos l
  held_all x p =
      scan_end l x.place (length l)
      (record {
        up_to = omega arith;
        within = omega (arith, p.below);
        strict = λ _. p.below;
        least = λ k h. (let t = p.least k (omega arith) h in omega (arith, p.there));
        first = λ k h. (let t = p.first k (omega arith) h in omega (arith, p.there));
      })
      (omega arith)

-- the lesser of two neighbours, and of four
abbrev two_of : List ℕ → ℕ → Least
two_of l i = lesser_of (entry_of l i) (entry_of l (i + 1))

abbrev four_of : List ℕ → ℕ → Least
four_of l i = lesser_of (two_of l i) (two_of l (i + 2))

module _ (l : List ℕ) where
  held_two : (i : ℕ) → Held l i (i + 2) (two_of l i)
  held_two i =
      let e : i + 1 + 1 ≡ i + 2 = omega arith in
      held_both l i (i + 1) (i + 2) (entry_of l i) (entry_of l (i + 1)) (held_one l i)
      (subst (λ (k : ℕ). Held l (i + 1) k (entry_of l (i + 1))) e (held_one l (i + 1)))

  held_four : (i : ℕ) → Held l i (i + 4) (four_of l i)
  held_four i =
      let e : i + 2 + 2 ≡ i + 4 = omega arith in
      held_both l i (i + 2) (i + 4) (two_of l i) (two_of l (i + 2)) (held_two i)
      (subst (λ (k : ℕ). Held l (i + 2) k (two_of l (i + 2))) e (held_two (i + 2)))

  held_to : (n : ℕ) (x y : Least) → length l ≡ n → x ≡ y → Held l 0 n y → (x.place ≡ smallest_pos l) × (x.place < n)
  held_to n x y len e h =
      let at = ap (λ (z : Least). z.place) e in
      (at ∙ held_all l y (subst (λ (k : ℕ). Held l 0 k y) (sym len) h), omega (arith, at, h.below))

  pub eight_smallest : length l ≡ 8 → (x : Least) → x ≡ lesser_of (four_of l 0) (four_of l 4) → (x.place ≡ smallest_pos l) × (x.place < 8)
  eight_smallest len x e =
      held_to 8 x _ len e (held_both l 0 4 8 (four_of l 0) (four_of l 4) (held_four 0) (held_four 4))

  pub six_smallest : length l ≡ 6 → (x : Least) → x ≡ lesser_of (four_of l 0) (two_of l 4) → (x.place ≡ smallest_pos l) × (x.place < 6)
  six_smallest len x e =
      held_to 6 x _ len e (held_both l 0 4 6 (four_of l 0) (two_of l 4) (held_four 0) (held_two 4))
