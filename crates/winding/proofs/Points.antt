-- What is known of the entries of a list, and of its faces, where no id lacks a point.
use Rattle.std.proofs.Common.{◌≡◌, ℕ, zero, suc, ◌+◌, ◌%◌, ◌^◌, ◌<◌, ◌≤◌, Bool, true, false, not, ◌&&◌, ◌||◌, T, eqb, ltb, leb, ◌⊎◌, List, [], ◌∷◌, length, get_or, refl, ap₂, ◌∙◌, Fits, w64, inl, inr, true≢false, zero-le, le_of_suc-le-suc, not-suc-le-zero, mod-eq_of_lt, add-one, arith, ltb→lt, nltb→le, le-ltb, ne_eqb, eqb-true, leb-false}
use lib.Dec.{leb-suc-suc}
use borrow.Author.Tests.{eqb-false}
use Rattle.base.specs.Kinds.{separator}
use Rattle.base.specs.Checks.{holds_separator}
use Rattle.faces.specs.Faces.{onto, runs, lead, full, faces}
use Rattle.winding.specs.Points.{lacks_point}
use Rattle.winding.specs.Inner.Scan.{Placed, any_without}

-- ---- two numbers

pub less : (a b : ℕ) → (a < b) ⊎ (b ≤ a)
less a b = go (ltb a b) (ltb→lt a b) (nltb→le a b)
  where
    go : (t : Bool) → (T t → a < b) → (T (not t) → b ≤ a) → (a < b) ⊎ (b ≤ a)
    go true l g = inl (l tt)
    go false l g = inr (g tt)

pub same : (a b : ℕ) → (a ≡ b) ⊎ (a ≡ b → ⊥)
same a b = go (eqb a b) refl
  where
    go : (t : Bool) → eqb a b ≡ t → (a ≡ b) ⊎ (a ≡ b → ⊥)
    go true e = inl (eqb-true a b e)
    go false e = inr (eqb-false a b e)

-- ---- a list of ids and separators

or-false_left : (a b : Bool) → (a || b) ≡ false → a ≡ false
or-false_left true b h = h
or-false_left false b h = refl

pub or-false_right : (a b : Bool) → (a || b) ≡ false → b ≡ false
or-false_right true b h = absurd (true≢false h)
or-false_right false b h = h

-- one more than an id, which at the separator wraps to 0, is above the count where the id has none of so many points
pub wrapped_test : (count id : ℕ) → id ≤ separator → ltb count ((id + 1) % 2 ^ 64) ≡ (not (eqb id separator) && leb count id)
wrapped_test count id h = go (same id separator)
  where
    go : (id ≡ separator) ⊎ (id ≡ separator → ⊥) → ltb count ((id + 1) % 2 ^ 64) ≡ (not (eqb id separator) && leb count id)
    go (inl s) = rw s (le-ltb count 0 zero-le)
    go (inr s) =
        let e : (id + 1) % 2 ^ 64 ≡ suc id = mod-eq_of_lt (omega arith) ∙ add-one id in
        rw (e, ne_eqb id separator s) (leb-suc-suc count id)

-- by that test the list is gone through
pub lacks_any : (count : ℕ) (ids : List ℕ) → ((i : ℕ) → Fits w64 (get_or ids i 0)) → any_without count ids ≡ lacks_point count ids
unfolding lacks_point
lacks_any count [] h = refl
lacks_any count (x ∷ xs) h =
    let b : Fits w64 x = h 0 in
    ap₂ (λ (a b : Bool). a || b) (wrapped_test count x (omega arith)) (lacks_any count xs (λ i. h (suc i)))

-- each id has a point
pub placed_ids : (count : ℕ) (ids : List ℕ) → lacks_point count ids ≡ false
    → (k : ℕ) → k < length ids → (get_or ids k 0 ≡ separator → ⊥) → get_or ids k 0 < count
unfolding lacks_point
placed_ids count [] h k l s = absurd (not-suc-le-zero l)
placed_ids count (x ∷ xs) h zero l s =
    leb-false count x
    (simp (ne_eqb x separator s) at (or-false_left (not (eqb x separator) && leb count x) (lacks_point count xs) h))
placed_ids count (x ∷ xs) h (suc k) l s =
    placed_ids count xs (or-false_right (not (eqb x separator) && leb count x) _ h) k (le_of_suc-le-suc l) s

no_separator : (ids : List ℕ) → holds_separator ids ≡ false → (k : ℕ) → k < length ids → get_or ids k 0 ≡ separator → ⊥
unfolding holds_separator
no_separator [] n k l e = not-suc-le-zero l
no_separator (x ∷ xs) n zero l e = eqb-false x separator (or-false_left (eqb x separator) (holds_separator xs) n) e
no_separator (x ∷ xs) n (suc k) l e = no_separator xs (or-false_right (eqb x separator) (holds_separator xs) n) k (le_of_suc-le-suc l) e

-- and so each entry where there is no separator
pub placed_all : (count : ℕ) (ids : List ℕ) → lacks_point count ids ≡ false → holds_separator ids ≡ false → Placed count ids
placed_all count ids h n k l = placed_ids count ids h k l (no_separator ids n k l)

-- ---- the faces

-- each of the faces has a node, and each of its nodes a point
abbrev pub AllPlaced : ℕ → List (List ℕ) → Type 0
AllPlaced count [] = Unit {0}
AllPlaced count (f ∷ fs) = (0 < length f) × Placed count f × AllPlaced count fs

none_placed : (count : ℕ) → Placed count []
none_placed count k h = absurd (not-suc-le-zero h)

one_more : (count x : ℕ) (l : List ℕ) → x < count → Placed count l → Placed count (x ∷ l)
one_more count x l h p zero k = h
one_more count x l h p (suc i) k = p i (le_of_suc-le-suc k)

led_placed : (count : ℕ) (r : List ℕ) (fs : List (List ℕ)) → Placed count r → AllPlaced count fs → AllPlaced count (lead r fs)
led_placed count [] fs p q = q
led_placed count (x ∷ r) fs p q = (omega arith, p, q)

runs_placed : (count : ℕ) (l : List ℕ) → lacks_point count l ≡ false → Placed count (runs l).first × AllPlaced count (full (runs l).rest)
unfolding runs full lacks_point
runs_placed count [] h = (none_placed count, tt)
runs_placed count (x ∷ l) h =
    go (eqb x separator) refl (runs_placed count l (or-false_right (not (eqb x separator) && leb count x) (lacks_point count l) h))
  where
    go : (b : Bool) → eqb x separator ≡ b → Placed count (runs l).first × AllPlaced count (full (runs l).rest)
        → Placed count (onto b x (runs l)).first × AllPlaced count (full (onto b x (runs l)).rest)
    go true e p = (none_placed count, led_placed count (runs l).first (full (runs l).rest) p.0 p.1)
    go false e p =
        let low : x < count = placed_ids count (x ∷ l) h 0 (omega arith) (eqb-false x separator e) in
        (one_more count x (runs l).first low p.0, p.1)

pub faces_placed : (count : ℕ) (l : List ℕ) → lacks_point count l ≡ false → AllPlaced count (faces l)
unfolding faces
faces_placed count l h =
    let p = runs_placed count l h in
    led_placed count (runs l).first (full (runs l).rest) p.0 p.1
