-- Laws of windings and counts, and how a cancellation among corners is carried over to ids.
use mathlib.Core.Path.{◌≡◌, refl, sym, ◌∙◌, ap, subst}
use mathlib.Core.Bool.{Bool, true, false, cond, ◌&&◌, ◌||◌, not}
use mathlib.Core.List.{List, [], ◌∷◌, ◌++◌, map}
use Prim.Native.Nat.{ℕ, zero, suc, ◌+◌, ◌≤◌, ◌<◌}
use native.Mathlib.Omega.{arith}
use lib.Dec.{T, eqb, ltb, eqb→eq, ltb→lt}
use borrow.Author.Tests.{eq-eqb, ne_eqb, eqb-true, eqb-false}
use Rattle.cuts.specs.Triangle.{Tri, tri, same, in_order, flip, count}
use Rattle.cuts.proofs.Laws.{and_left, and_right}
use Rattle.cuts.proofs.KindTest.{has, without, cancels, once, in_tri, in_tris}

and_swap : (p q r : Bool) → (p && (q && r)) ≡ (q && (p && r))
and_swap true q r = refl
and_swap false true r = refl
and_swap false false r = refl

and_turn : (p q r : Bool) → (p && (q && r)) ≡ (r && (p && q))
and_turn true true true = refl
and_turn true true false = refl
and_turn true false true = refl
and_turn true false false = refl
and_turn false q true = refl
and_turn false q false = refl

or_swap : (p q r : Bool) → (p || (q || r)) ≡ (p || (r || q))
or_swap true q r = refl
or_swap false true true = refl
or_swap false true false = refl
or_swap false false true = refl
or_swap false false false = refl

or_turn : (p q r : Bool) → (p || (q || r)) ≡ (r || (p || q))
or_turn true q true = refl
or_turn true q false = refl
or_turn false true true = refl
or_turn false true false = refl
or_turn false false true = refl
or_turn false false false = refl

abbrev pub rot : Tri → Tri
rot (tri a b c) = tri b c a

abbrev pub map_tri : (ℕ → ℕ) → Tri → Tri
map_tri f (tri a b c) = tri (f a) (f b) (f c)

pub same-flip : (s u : Tri) → same (flip s) (flip u) ≡ same s u
same-flip (tri a b c) (tri x y z) =
    rw (and_swap (eqb b y) (eqb a x) (eqb c z), and_swap (eqb b x) (eqb a z) (eqb c y), and_swap (eqb b z) (eqb a y) (eqb c x))
    (or_swap (in_order a b c x y z) (in_order a b c z x y) (in_order a b c y z x))

pub same_rot : (s u : Tri) → same s (rot u) ≡ same s u
same_rot (tri a b c) (tri x y z) = or_turn (in_order a b c y z x) (in_order a b c z x y) (in_order a b c x y z)

pub rot_same : (s u : Tri) → same (rot s) u ≡ same s u
rot_same (tri a b c) (tri x y z) =
    rw (and_turn (eqb b x) (eqb c y) (eqb a z), and_turn (eqb b y) (eqb c z) (eqb a x), and_turn (eqb b z) (eqb c x) (eqb a y))
    (or_turn (in_order a b c z x y) (in_order a b c x y z) (in_order a b c y z x) ∙ or_turn (in_order a b c y z x) (in_order a b c z x y) (in_order a b c x y z))

module _ (P : Tri → Type 0) where
  all_three : (a b c x y z : ℕ) → T (in_order a b c x y z) → P (tri a b c) → P (tri x y z)
  all_three a b c x y z h p =
      let e = eqb→eq a x (and_left (eqb a x) (eqb b y && eqb c z) h) in
      let h2 = and_right (eqb a x) (eqb b y && eqb c z) h in
      let e2 = eqb→eq b y (and_left (eqb b y) (eqb c z) h2) in
      let e3 = eqb→eq c z (and_right (eqb b y) (eqb c z) h2) in
      rw (← e, ← e2, ← e3) p

  one_of : (x y z : Bool) {Q : Type 0} → (T x → Q) → (T y → Q) → (T z → Q) → T (x || (y || z)) → Q
  one_of true y z f g h t = f tt
  one_of false true z f g h t = g tt
  one_of false false z f g h t = h t

  -- what is as s in winding is s or one of its rotations
  pub same_elim : (s u : Tri) → T (same s u) → P s → P (rot s) → P (rot (rot s)) → P u
  same_elim (tri a b c) (tri x y z) t p q r =
      one_of (in_order a b c x y z) (in_order a b c y z x) (in_order a b c z x y)
      (λ h. all_three a b c x y z h p)
      (λ h. all_three c a b x y z (subst T (and_turn (eqb a y) (eqb b z) (eqb c x)) h) r)
      (λ h. all_three b c a x y z (subst T (sym (and_turn (eqb b x) (eqb c y) (eqb a z))) h) q)
      t

-- a triangle may be replaced by one of the same winding, on either side
pub same_right : (f : ℕ → ℕ) (s t u : Tri) → T (same t u) → same s (map_tri f u) ≡ same s (map_tri f t)
same_right f s (tri a b c) u h =
    same_elim (λ (v : Tri). same s (map_tri f v) ≡ same s (tri (f a) (f b) (f c))) (tri a b c) u h refl
    (same_rot s (tri (f a) (f b) (f c)))
    (same_rot s (tri (f b) (f c) (f a)) ∙ same_rot s (tri (f a) (f b) (f c)))

pub same_left : (s u v : Tri) → T (same s u) → same u v ≡ same s v
same_left s u v h = same_elim (λ (w : Tri). same w v ≡ same s v) s u h refl (rot_same s v) (rot_same (rot s) v ∙ rot_same s v)

abbrev pub bit : Bool → ℕ
bit b = cond b 1 0

abbrev pub map_tris : (ℕ → ℕ) → List Tri → List Tri
map_tris f ts = map (map_tri f) ts

module _ (f : ℕ → ℕ) where
  step : (s t u : Tri) (us : List Tri) (b : Bool) → (T b → same s (map_tri f u) ≡ same s (map_tri f t)) → T (b || has t us)
      → (T (has t us) → count s (map_tris f us) ≡ bit (same s (map_tri f t)) + count s (map_tris f (without t us)))
      → bit (same s (map_tri f u)) + count s (map_tris f us) ≡ bit (same s (map_tri f t)) + count s (map_tris f (cond b us (u ∷ without t us)))
  step s t u us true e h ih = ap (λ (b : Bool). bit b + count s (map_tris f us)) (e tt)
  step s t u us false e h ih = omega (arith, ih h)

  count_without : (s t : Tri) (us : List Tri) → T (has t us) → count s (map_tris f us) ≡ bit (same s (map_tri f t)) + count s (map_tris f (without t us))
  count_without s t [] h = absurd h
  count_without s t (u ∷ us) h = step s t u us (same t u) (same_right f s t u) h (count_without s t us)

  -- a list that cancels by pairs has, after any renaming, as many triangles of a winding as of the other
  pub carry : (n : ℕ) (us : List Tri) → T (cancels n us) → (s : Tri) → count s (map_tris f us) ≡ count (flip s) (map_tris f us)
  carry zero [] h s = refl
  carry zero (u ∷ us) h s = absurd h
  carry (suc n) [] h s = refl
  carry (suc n) (tri x y z ∷ us) h s =
      let t = tri y x z in
      let p = and_left (has t us) (cancels n (without t us)) h in
      let e1 = ap bit (same-flip s (map_tri f t)) in
      let e2 = ap bit (same-flip s (map_tri f (tri x y z))) in
      omega (arith, count_without s t us p, count_without (flip s) t us p, carry n (without t us) (and_right (has t us) (cancels n (without t us)) h) s, e1, e2)

pub count-append : (s : Tri) (ts us : List Tri) → count s (ts ++ us) ≡ count s ts + count s us
count-append s [] us = omega arith
count-append s (t ∷ ts) us = omega (arith, count-append s ts us)

pub count_flips : (f : ℕ → ℕ) (s : Tri) (os : List Tri) → count s (map_tris f (map flip os)) ≡ count (flip s) (map_tris f os)
count_flips f s [] = refl
count_flips f s (tri x y z ∷ os) = omega (arith, count_flips f s os, ap bit (same-flip s (map_tri f (tri y x z))))

pub count_minus : (f : ℕ → ℕ) (s : Tri) (ts os : List Tri) → count s (map_tris f (ts ++ map flip os)) ≡ count s (map_tris f ts) + count (flip s) (map_tris f os)
count_minus f s [] os = omega (arith, count_flips f s os)
count_minus f s (t ∷ ts) os = omega (arith, count_minus f s ts os)

-- the signed counts of ts and of os agree
pub balance : (f : ℕ → ℕ) (n : ℕ) (ts os : List Tri) → T (cancels n (ts ++ map flip os)) → (s : Tri)
    → count s (map_tris f ts) + count (flip s) (map_tris f os) ≡ count (flip s) (map_tris f ts) + count s (map_tris f os)
balance f n ts os h (tri a b c) =
    let s = tri a b c in
    omega (arith, carry f n (ts ++ map flip os) h s, count_minus f s ts os, count_minus f (flip s) ts os)

-- no triangle twice in one winding
has_not : (s u : Tri) (us : List Tri) → T (same s u) → T (not (has u us)) → count s us ≡ 0
has_not s u [] h k = refl
has_not s u (v ∷ us) h k = go (same u v) (same_left s u v h) k (has_not s u us h)
  where
    go : (b : Bool) → b ≡ same s v → T (not (b || has u us)) → (T (not (has u us)) → count s us ≡ 0) → bit (same s v) + count s us ≡ 0
    go true e k ih = absurd k
    go false e k ih = omega (arith, ih k, ap bit e)

pub at_most_once : (us : List Tri) → T (once us) → (s : Tri) → count s us ≤ 1
at_most_once [] h s = omega arith
at_most_once (u ∷ us) h s = go (same s u) refl (at_most_once us (and_right (not (has u us)) (once us) h) s)
  where
    go : (b : Bool) → same s u ≡ b → count s us ≤ 1 → bit (same s u) + count s us ≤ 1
    go true e ih = omega (arith, ap bit e, has_not s u us (subst T (sym e) tt) (and_left (not (has u us)) (once us) h))
    go false e ih = omega (arith, ap bit e)

-- distinct ids: what is one triangle after the renaming was one before
module _ (n : ℕ) (f : ℕ → ℕ) (inj : (i j : ℕ) → i < n → j < n → f i ≡ f j → i ≡ j) where
  eqb-map : (a x : ℕ) → T (ltb a n) → T (ltb x n) → eqb (f a) (f x) ≡ eqb a x
  eqb-map a x ha hx = go (eqb a x) refl
    where
      go : (b : Bool) → eqb a x ≡ b → eqb (f a) (f x) ≡ b
      go true e = eq-eqb (f a) (f x) (ap f (eqb-true a x e))
      go false e = ne_eqb (f a) (f x) (λ p. eqb-false a x e (inj a x (ltb→lt a n ha) (ltb→lt x n hx) p))

  same_map : (s u : Tri) → T (in_tri n s) → T (in_tri n u) → same (map_tri f s) (map_tri f u) ≡ same s u
  same_map (tri a b c) (tri x y z) hs hu =
      let a< = and_left (ltb a n) (ltb b n && ltb c n) hs in
      let bc = and_right (ltb a n) (ltb b n && ltb c n) hs in
      let b< = and_left (ltb b n) (ltb c n) bc in
      let c< = and_right (ltb b n) (ltb c n) bc in
      let x< = and_left (ltb x n) (ltb y n && ltb z n) hu in
      let yz = and_right (ltb x n) (ltb y n && ltb z n) hu in
      let y< = and_left (ltb y n) (ltb z n) yz in
      let z< = and_right (ltb y n) (ltb z n) yz in
      rw (
        eqb-map a x a< x<,
        eqb-map a y a< y<,
        eqb-map a z a< z<,
        eqb-map b x b< x<,
        eqb-map b y b< y<,
        eqb-map b z b< z<,
        eqb-map c x c< x<,
        eqb-map c y c< y<,
        eqb-map c z c< z<,
      )

  has_map : (s : Tri) (us : List Tri) → T (in_tri n s) → T (in_tris n us) → has (map_tri f s) (map_tris f us) ≡ has s us
  has_map s [] hs hu = refl
  has_map s (u ∷ us) hs hu =
      rw (same_map s u hs (and_left (in_tri n u) (in_tris n us) hu), has_map s us hs (and_right (in_tri n u) (in_tris n us) hu))

  pub once_map : (us : List Tri) → T (in_tris n us) → once (map_tris f us) ≡ once us
  once_map [] hu = refl
  once_map (u ∷ us) hu =
      let h = and_left (in_tri n u) (in_tris n us) hu in
      let hs = and_right (in_tri n u) (in_tris n us) hu in
      rw (has_map u us h hs, once_map us hs)
