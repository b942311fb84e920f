-- Four triangles with each edge there exactly twice have a fourth node. Suppose every node of the second and of the
-- third is a, b or c, the first one's nodes. A triangle x x y has the edge x y twice, and the first has it once more; x x x
-- has the edge x x three times; and where neither happens both have the edge a b, as the first has. Each time some
-- edge is there three times.
use Prim.Native.Nat.{ℕ, suc, zero, ◌+◌, ◌≤◌, ◌<◌}
use mathlib.Core.Path.{◌≡◌, refl}
use mathlib.Core.List.{List, [], ◌∷◌}
use mathlib.Core.Bool.{Bool, true, false, cond, ◌&&◌, ◌||◌}
use native.Mathlib.Omega.{arith}
use lib.ListN.{length, get_or}
use lib.Dec.{eqb}
use borrow.Author.Tests.{eqb-true, eq-eqb}
use Rattle.base.proofs.Tests.{and-true}
use Rattle.faces.specs.Edges.{Edge, edge, along, edges, hits, count, twice, closed}

-- x is a, b or c
pub data Of (a b c : ℕ) : ℕ → Type 0 where
  is_a : Of a b c a
  is_b : Of a b c b
  is_c : Of a b c c

self : (x y : ℕ) → hits (edge x y) (edge x y) ≡ 1
self x y = rw (eq-eqb x x refl, eq-eqb y y refl)

or_right : (t : Bool) → ◌≡◌ {A = ℕ} (cond (t || true) 1 0) 1
or_right true = refl
or_right false = refl

flip : (x y : ℕ) → hits (edge x y) (edge y x) ≡ 1
flip x y = rw (eq-eqb x x refl, eq-eqb y y refl) (or_right (eqb x y && eqb y x))

-- how often an edge occurs in a triangle
abbrev in_tri : Edge → ℕ → ℕ → ℕ → ℕ
in_tri d p q r = hits d (edge p q) + (hits d (edge q r) + hits d (edge r p))

-- the first triangle is a b c, and an edge occurs K times in two others
module _ (a b c : ℕ) (K : Edge → ℕ)
    (aa : hits (edge a a) (edge a a) ≡ 1) (bb : hits (edge b b) (edge b b) ≡ 1) (cc' : hits (edge c c) (edge c c) ≡ 1)
    (ab : hits (edge a b) (edge a b) ≡ 1) (bc : hits (edge b c) (edge b c) ≡ 1) (ca : hits (edge c a) (edge c a) ≡ 1)
    (ba : hits (edge a b) (edge b a) ≡ 1) (cb : hits (edge b c) (edge c b) ≡ 1) (ac : hits (edge c a) (edge a c) ≡ 1) where
  abbrev Twice : ℕ → ℕ → ℕ → Edge → Type 0
  Twice p q r d = in_tri d a b c + (in_tri d p q r + K d) ≡ 2

  -- a fourth triangle of those nodes has the edge a b
  has_ab : (p q r : ℕ) → Of a b c p → Of a b c q → Of a b c r → Twice p q r (edge p q)
      → Twice p q r (edge a b) → Twice p q r (edge b c) → Twice p q r (edge c a) → 1 ≤ in_tri (edge a b) p q r
  has_ab p q r is_a is_a is_a h x y z = omega arith
  has_ab p q r is_a is_a is_b h x y z = omega arith
  has_ab p q r is_a is_a is_c h x y z = omega arith
  has_ab p q r is_a is_b is_a h x y z = omega arith
  has_ab p q r is_a is_b is_b h x y z = omega arith
  has_ab p q r is_a is_b is_c h x y z = omega arith
  has_ab p q r is_a is_c is_a h x y z = omega arith
  has_ab p q r is_a is_c is_b h x y z = omega arith
  has_ab p q r is_a is_c is_c h x y z = omega arith
  has_ab p q r is_b is_a is_a h x y z = omega arith
  has_ab p q r is_b is_a is_b h x y z = omega arith
  has_ab p q r is_b is_a is_c h x y z = omega arith
  has_ab p q r is_b is_b is_a h x y z = omega arith
  has_ab p q r is_b is_b is_b h x y z = omega arith
  has_ab p q r is_b is_b is_c h x y z = omega arith
  has_ab p q r is_b is_c is_a h x y z = omega arith
  has_ab p q r is_b is_c is_b h x y z = omega arith
  has_ab p q r is_b is_c is_c h x y z = omega arith
  has_ab p q r is_c is_a is_a h x y z = omega arith
  has_ab p q r is_c is_a is_b h x y z = omega arith
  has_ab p q r is_c is_a is_c h x y z = omega arith
  has_ab p q r is_c is_b is_a h x y z = omega arith
  has_ab p q r is_c is_b is_b h x y z = omega arith
  has_ab p q r is_c is_b is_c h x y z = omega arith
  has_ab p q r is_c is_c is_a h x y z = omega arith
  has_ab p q r is_c is_c is_b h x y z = omega arith
  has_ab p q r is_c is_c is_c h x y z = omega arith

-- in a closed list each edge occurs twice
twice_at : (all ds : List Edge) (i : ℕ) (d : Edge) → twice all ds ≡ true → i < length ds → count (get_or ds i d) all ≡ 2
unfolding twice
twice_at all [] i d e h = absurd (omega arith)
twice_at all (x ∷ ds) zero d e h = eqb-true _ 2 (and-true (eqb (count x all) 2) (twice all ds) e).0
twice_at all (x ∷ ds) (suc i) d e h = twice_at all ds i d (and-true (eqb (count x all) 2) (twice all ds) e).1 (omega arith)

abbrev pub four : ℕ → ℕ → ℕ → ℕ → ℕ → ℕ → ℕ → ℕ → ℕ → ℕ → ℕ → ℕ → List (List ℕ)
four a b c p q r s t u x y z = (a ∷ b ∷ c ∷ []) ∷ (p ∷ q ∷ r ∷ []) ∷ (s ∷ t ∷ u ∷ []) ∷ (x ∷ y ∷ z ∷ []) ∷ []

pub never : (a b c p q r s t u x y z : ℕ) → Of a b c p → Of a b c q → Of a b c r → Of a b c s → Of a b c t → Of a b c u
    → closed (four a b c p q r s t u x y z) ≡ true → ⊥
unfolding edges along
never a b c p q r s t u x y z hp hq hr hs ht hu e =
    let es = edges (four a b c p q r s t u x y z) in
    let k : (d : Edge) → count d es ≡ in_tri d a b c + (in_tri d p q r + (in_tri d s t u + in_tri d x y z)) = λ d. unfold count in omega arith in
    let at : (i : ℕ) → i < 12 → count (get_or es i (edge 0 0)) es ≡ 2 = λ i h. twice_at es es i (edge 0 0) e h in
    let pq = has_ab a b c (λ d. in_tri d s t u + in_tri d x y z) (self a a) (self b b) (self c c) (self a b) (self b c) (self c a) (flip a b) (flip b c) (flip c a)
    p q r hp hq hr (omega (arith, k (edge p q), at 3 (omega arith))) (omega (arith, k (edge a b), at 0 (omega arith))) (omega (arith, k (edge b c), at 1 (omega arith))) (omega (arith, k (edge c a), at 2 (omega arith))) in
    let st = has_ab a b c (λ d. in_tri d p q r + in_tri d x y z) (self a a) (self b b) (self c c) (self a b) (self b c) (self c a) (flip a b) (flip b c) (flip c a)
    s t u hs ht hu (omega (arith, k (edge s t), at 6 (omega arith))) (omega (arith, k (edge a b), at 0 (omega arith))) (omega (arith, k (edge b c), at 1 (omega arith))) (omega (arith, k (edge c a), at 2 (omega arith))) in
    omega (arith, self a b, k (edge a b), at 0 (omega arith), pq, st)
