-- Nodes that go by the number of their first place: edges are the same exactly when their numbers are, so a number is met
-- as often as its edge occurs.
use Prim.Native.Nat.{ℕ, zero, suc, ◌+◌, ◌-◌, ◌*◌, ◌≤◌, ◌<◌}
use mathlib.Core.Path.{◌≡◌, refl, sym, ap, ◌∙◌}
use mathlib.Core.Logic.{◌⊎◌, inl, inr}
use mathlib.Core.List.{List, [], ◌∷◌}
use mathlib.Core.Bool.{Bool, true, false, cond, ◌&&◌, ◌||◌, false≢true}
use native.Mathlib.Numerals.{add-one}
use native.Mathlib.Nat.{zero-add}
use native.Mathlib.Omega.{arith}
use lib.Dec.{eqb, ltb}
use mir.Val.{bool_byte}
use lib.ListN.{length, get_or, set, replicate}
use lib.Seq.{get_or-set_same, get_or-set_other}
use borrow.Author.Tests.{eqb-true, eqb-false, eq-eqb, ne_eqb, ltb-true, ltb-false}
use Rattle.std.specs.Prelude.{min, max, Option, MatchOption}
use Rattle.std.specs.List.{AllWithin, HoldsAt}
use Rattle.std.proofs.lemmas.Iterator.{index_from_first}
use Rattle.std.specs.Option.{unwrap_or}
use Rattle.base.specs.Kinds.{separator}
use Rattle.base.proofs.Tests.{and-true}
use Rattle.faces.specs.Edges.{Edge, same, hits, count, twice}
use Rattle.surfaces.specs.Inner.Numbers.{place_of, pair, edge_by, edges_by, closed_by, edge_number, met, met_twice, met_in, each_twice, Numbered, Coded, Within}

-- a node's first place is not behind it
pub place_within : (nodes : List ℕ) (i : ℕ) → i < length nodes → place_of nodes (get_or nodes i separator) ≤ i
unfolding place_of
place_within [] i h = absurd (omega arith)
place_within (y ∷ nodes) zero h = rw (eq-eqb y y refl) (omega arith)
place_within (y ∷ nodes) (suc i) h = go (eqb y (get_or nodes i separator)) (place_within nodes i (omega arith))
  where
    go : (s : Bool) → place_of nodes (get_or nodes i separator) ≤ i
        → cond s 0 (suc (place_of nodes (get_or nodes i separator))) ≤ suc i
    go true l = omega arith
    go false l = omega arith

-- two nodes of one number are one, if the number is a place
place_same : (nodes : List ℕ) (x y : ℕ) → place_of nodes x < length nodes → place_of nodes x ≡ place_of nodes y → x ≡ y
unfolding place_of
place_same [] x y h e = absurd (omega arith)
place_same (z ∷ nodes) x y h e = go (eqb z x) (eqb z y) refl refl h e (place_same nodes x y)
  where
    go : (s t : Bool) → eqb z x ≡ s → eqb z y ≡ t → cond s 0 (suc (place_of nodes x)) < suc (length nodes)
        → cond s 0 (suc (place_of nodes x)) ≡ cond t 0 (suc (place_of nodes y))
        → (place_of nodes x < length nodes → place_of nodes x ≡ place_of nodes y → x ≡ y) → x ≡ y
    go true true p q h e later = sym (eqb-true z x p) ∙ eqb-true z y q
    go true false p q h e later = absurd (omega arith)
    go false true p q h e later = absurd (omega arith)
    go false false p q h e later = later (omega arith) (omega arith)

-- what a pair of small numbers tells of them
either : (a b : ℕ) → (P : ℕ → Type 0) → (a < b → P (32 * a + b)) → (b ≤ a → P (32 * b + a)) → P (pair a b)
unfolding pair
either a b P f g = go (ltb a b) refl
  where
    go : (s : Bool) → ltb a b ≡ s → P (cond s (32 * a + b) (32 * b + a))
    go true e = f (ltb-true a b e)
    go false e = g (ltb-false a b e)

-- the lesser in front of the greater
pub pair_ordered : (a b : ℕ) → 32 * min a b + max a b ≡ pair a b
pair_ordered a b =
    either a b (λ v. 32 * min a b + max a b ≡ v)
    (λ l. omega arith)
    (λ l. omega arith)

abbrev Same : ℕ → ℕ → ℕ → ℕ → Type 0
Same a b x y = ((a ≡ x) × (b ≡ y)) ⊎ ((a ≡ y) × (b ≡ x))

module _ (a b x y : ℕ) (ha : a < 24) (hb : b < 24) (hx : x < 24) (hy : y < 24) where
  pair_tells : pair a b ≡ pair x y → Same a b x y
  pair_tells =
      either a b (λ v. v ≡ pair x y → Same a b x y)
      (λ l. either x y (λ w. 32 * a + b ≡ w → Same a b x y) (λ m e. inl (omega arith, omega arith)) (λ m e. inr (omega arith, omega arith)))
      (λ l. either x y (λ w. 32 * b + a ≡ w → Same a b x y) (λ m e. inr (omega arith, omega arith)) (λ m e. inl (omega arith, omega arith)))

pair-turned : (a b : ℕ) → pair a b ≡ pair b a
pair-turned a b =
    either a b (λ v. v ≡ pair b a)
    (λ l. either b a (λ w. 32 * a + b ≡ w) (λ m. absurd (omega arith)) (λ m. refl))
    (λ l. either b a (λ w. 32 * b + a ≡ w) (λ m. refl) (λ m. omega arith))

-- the number of an edge by its nodes
abbrev code_of : List ℕ → Edge → ℕ
code_of nodes d = pair (place_of nodes d.from) (place_of nodes d.to)

-- both ends are nodes of the list, which are 24 at most
abbrev Ends : List ℕ → Edge → Type 0
Ends nodes d = (place_of nodes d.from < length nodes) × (place_of nodes d.to < length nodes)

module _ (nodes : List ℕ) (few : length nodes ≤ 24) (d e : Edge) (hd : Ends nodes d) (he : Ends nodes e) where
  same_code : same d e ≡ true → code_of nodes e ≡ code_of nodes d
  same_code = go (eqb d.from e.from && eqb d.to e.to) refl
    where
      go : (s : Bool) → (eqb d.from e.from && eqb d.to e.to) ≡ s
          → (s || eqb d.from e.to && eqb d.to e.from) ≡ true → code_of nodes e ≡ code_of nodes d
      go true p h =
          let b = and-true (eqb d.from e.from) (eqb d.to e.to) p in
          rw (eqb-true d.from e.from b.0, eqb-true d.to e.to b.1)
      go false p h =
          let b = and-true (eqb d.from e.to) (eqb d.to e.from) h in
          rw (eqb-true d.from e.to b.0, eqb-true d.to e.from b.1)
          (pair-turned (place_of nodes e.from) (place_of nodes e.to))

  or_right : (s : Bool) → (s || true) ≡ true
  or_right true = refl
  or_right false = refl

  code_same : code_of nodes d ≡ code_of nodes e → same d e ≡ true
  code_same q = go (pair_tells (place_of nodes d.from) (place_of nodes d.to) (place_of nodes e.from) (place_of nodes e.to)
      (omega arith) (omega arith) (omega arith) (omega arith) q)
    where
      go : Same (place_of nodes d.from) (place_of nodes d.to) (place_of nodes e.from) (place_of nodes e.to)
          → same d e ≡ true
      go (inl p) =
          rw (
            eq-eqb d.from e.from (place_same nodes d.from e.from hd.0 p.0),
            eq-eqb d.to e.to (place_same nodes d.to e.to hd.1 p.1),
          )
      go (inr p) =
          rw (
            eq-eqb d.from e.to (place_same nodes d.from e.to hd.0 p.0),
            eq-eqb d.to e.from (place_same nodes d.to e.from hd.1 p.1),
          )
          (or_right (eqb d.from e.from && eqb d.to e.to))

  hits_code : ◌≡◌ {A = ℕ} (cond (eqb (code_of nodes e) (code_of nodes d)) 1 0) (hits d e)
  hits_code = go (same d e) refl
    where
      go : (s : Bool) → same d e ≡ s → ◌≡◌ {A = ℕ} (cond (eqb (code_of nodes e) (code_of nodes d)) 1 0) (cond s 1 0)
      go true p = rw (eq-eqb _ _ (same_code p))
      go false p = rw (ne_eqb _ _ (λ q. false≢true (sym p ∙ code_same (sym q))))

-- the numbers that the code keeps
module _ (nodes next numbers : List ℕ) (long : length next ≡ length nodes) (few : length next ≤ 24)
    (within : Within next (length nodes)) (numbered : Numbered nodes numbers) where
  number_code : (i : ℕ) → i < length next → edge_number numbers next i ≡ code_of nodes (edge_by nodes next i)
  number_code i h = rw (numbered i (omega arith), numbered (get_or next i 0) (within i h))

  ends_in : (i : ℕ) → i < length next → Ends nodes (edge_by nodes next i)
  ends_in i h =
      let n = within i h in
      (omega (arith, place_within nodes i (omega arith)), omega (arith, place_within nodes (get_or next i 0) n))

  -- what is met before place k and what occurs from there on make up all
  met_on : (d : Edge) → Ends nodes d → (k m : ℕ) → k + m ≡ length next
      → met numbers next (code_of nodes d) k + count d (edges_by nodes next k m) ≡ count d (edges_by nodes next 0 (length next))
  unfolding met edges_by count
  met_on d hd zero m e = let q : m ≡ length next = omega arith in rw (q, zero-add)
  met_on d hd (suc k) m e =
      let h : k < length next = omega arith in
      let n : length nodes ≤ 24 = omega arith in
      let t : ◌≡◌ {A = ℕ} (cond (eqb (edge_number numbers next k) (code_of nodes d)) 1 0) (hits d (edge_by nodes next k)) =
      rw (number_code k h) (hits_code nodes n d (edge_by nodes next k) hd (ends_in k h)) in
      omega (arith, t, met_on d hd k (suc m) (omega arith))

  met_all : (i : ℕ) → i < length next
      → met numbers next (edge_number numbers next i) (length next)
      ≡ count (edge_by nodes next i) (edges_by nodes next 0 (length next))
  unfolding edges_by count
  met_all i h =
      let d = edge_by nodes next i in
      let n = met_on d (ends_in i h) (length next) 0 (omega arith) in
      ap (λ (c : ℕ). met numbers next c (length next)) (number_code i h) ∙ omega (arith, n)

  met-twice : (i m : ℕ) → i + m ≡ length next
      → met_twice numbers next i m ≡ twice (edges_by nodes next 0 (length next)) (edges_by nodes next i m)
  unfolding met_twice edges_by twice
  met-twice i zero e = refl
  met-twice i (suc m) e = rw (met_all i (omega arith), met-twice (suc i) m (omega arith))

  pub numbers_close : met_twice numbers next 0 (length next) ≡ closed_by nodes next
  numbers_close = met-twice 0 (length next) (omega arith)

-- the list of the edges' numbers is met as the edges are
module _ (numbers next edges : List ℕ) (coded : Coded numbers next edges) where
  met_as : (c n : ℕ) → n ≤ length numbers → met_in edges c n ≡ met numbers next c n
  unfolding met met_in
  met_as c zero h = refl
  met_as c (suc n) h = rw (met_as c n (omega arith), coded n (omega arith))

  twice_as : (i n : ℕ) → length edges ≡ length next → length next ≤ length numbers → i + n ≤ length numbers
      → each_twice edges i n ≡ met_twice numbers next i n
  unfolding met_twice each_twice
  twice_as i zero e l h = refl
  twice_as i (suc n) e l h =
      rw (coded i (omega arith), e, met_as _ (length next) l, twice_as (suc i) n e l (omega arith))

  pub edges_twice : length edges ≡ length next → length next ≤ length numbers
      → each_twice edges 0 (length edges) ≡ met_twice numbers next 0 (length next)
  edges_twice e l = rw e (twice_as 0 (length next) e l (omega arith))

-- where a search for a node ends, or the list's length, is its first place
pub first_place : (nodes : List ℕ) (x : ℕ) (r : Option ℕ)
    → MatchOption r (AllWithin (λ y. y ≡ x → ⊥) nodes 0 (length nodes))
    (λ i. (i < length nodes) × HoldsAt (λ y. y ≡ x) nodes i × AllWithin (λ y. y ≡ x → ⊥) nodes 0 i)
    → place_of nodes x ≡ unwrap_or r (length nodes)
unfolding place_of
first_place nodes x r h =
    index_from_first (λ l. place_of l x) (λ y. y ≡ x) (λ y. y ≡ x → ⊥) refl
    (λ y l e. rw (eq-eqb y x e))
    (λ y l n. rw (ne_eqb y x n, add-one)) nodes r h

-- a list that changes in one place
module _ (list : List ℕ) (i v k : ℕ) (P : ℕ → Type 0) where
  pub set_at : i < length list → (k ≡ i → P v) → ((k ≡ i → ⊥) → P (get_or list k 0)) → P (get_or (set list i v) k 0)
  set_at h f g = go (eqb k i) refl
    where
      go : (s : Bool) → eqb k i ≡ s → P (get_or (set list i v) k 0)
      go true e = let q = eqb-true k i e in rw (q, get_or-set_same list i v 0 h) (f q)
      go false e = let n = eqb-false k i e in rw (get_or-set_other list i k v 0 n) (g n)

-- the number c at place i is that of the edge there, or it is not
module _ (edges : List ℕ) (c i : ℕ) where
  pub met_hit : c ≡ get_or edges i 0 → met_in edges c i + 1 ≡ met_in edges c (i + 1)
  unfolding met_in
  met_hit e = let s : i + 1 ≡ suc i = omega arith in rw (s, eq-eqb (get_or edges i 0) c (sym e))

  pub met_miss : (c ≡ get_or edges i 0 → ⊥) → met_in edges c i ≡ met_in edges c (i + 1)
  unfolding met_in
  met_miss n =
      let s : i + 1 ≡ suc i = omega arith in
      rw (s, ne_eqb (get_or edges i 0) c (λ e. n (sym e))) (omega arith)

-- the number at place i is met n times in all
pub twice_from : (edges : List ℕ) (i n : ℕ) (b : Bool) → i < length edges
    → n ≡ met_in edges (get_or edges i 0) (length edges) → eqb n 2 ≡ b
    → each_twice edges i (length edges - i) ≡ (b && each_twice edges (i + 1) (length edges - (i + 1)))
unfolding each_twice
twice_from edges i n b h e t =
    let l : length edges - i ≡ suc (length edges - (i + 1)) = omega arith in
    rw (l, ← e, t, add-one)

-- a test as a number
pub byte_if : (b : Bool) → bool_byte b ≡ cond b 1 0
byte_if true = refl
byte_if false = refl

pub byte_few : (b : Bool) → bool_byte b ≤ 1
byte_few true = omega arith
byte_few false = omega arith

-- a new array has zeros alone
pub zeros : (n k : ℕ) → ◌≡◌ {A = ℕ} (get_or (replicate n 0) k 0) 0
zeros zero k = refl
zeros (suc n) zero = refl
zeros (suc n) (suc k) = zeros n k
