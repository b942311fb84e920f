-- The edges of the faces, read off the caller's list place by place.
use Prim.Native.Nat.{ℕ, suc, zero, ◌+◌, ◌-◌, ◌≤◌, ◌<◌}
use mathlib.Core.Path.{◌≡◌, refl, sym, ◌∙◌}
use mathlib.Core.List.{List, [], ◌∷◌, ◌++◌}
use mathlib.Core.Bool.{Bool, true, false, cond, not, ◌&&◌, ◌||◌, false≢true}
use native.Mathlib.Numerals.{add-one}
use native.Mathlib.Nat.{add-zero}
use native.Mathlib.Omega.{arith}
use lib.ListN.{length, get_or, drop_of_length-le}
use lib.Seq.{drop-cons, get_or-drop}
use lib.Dec.{eqb}
use borrow.Author.Tests.{eqb-true, eqb-false, ne_eqb, le-leb, lt-leb}
use Rattle.base.specs.Kinds.{separator}
use Rattle.base.proofs.Picks.{within_default}
use Rattle.faces.specs.Faces.{onto, runs, lead, full, faces}
use Rattle.faces.specs.Edges.{Edge, edge, along, cycle, edges, hits, count}
use Rattle.surfaces.proofs.Pairs.{paired}
use Rattle.surfaces.specs.Inner.Places.{emit, flat, head, follower, edge_at, hits_at, edges_from, later_at}

-- the entry after a node, or f where its face ends there
next_entry : (f : ℕ) (l : List ℕ)
    → cond (eqb (get_or l 0 separator) separator) f (get_or l 0 separator) ≡ get_or (runs l).first 0 f
unfolding runs
next_entry f [] = refl
next_entry f (x ∷ l) = go (eqb x separator)
  where
    go : (b : Bool) → cond b f x ≡ get_or (onto b x (runs l)).first 0 f
    go true = refl
    go false = refl

first_entry : (l : List ℕ) → get_or l 0 separator ≡ get_or (runs l).first 0 separator
unfolding runs
first_entry [] = refl
first_entry (x ∷ l) = go (eqb x separator) refl
  where
    go : (b : Bool) → eqb x separator ≡ b → x ≡ get_or (onto b x (runs l)).first 0 separator
    go true e = eqb-true x separator e
    go false e = refl

lead-edges : (r : List ℕ) (fs : List (List ℕ)) → edges (lead r fs) ≡ cycle r ++ edges fs
unfolding edges along
lead-edges [] fs = refl
lead-edges (x ∷ r) fs = refl

flat-runs : (f : ℕ) (l : List ℕ) → flat f l ≡ along f (runs l).first ++ edges (full (runs l).rest)
unfolding flat runs along full edges
flat-runs f [] = refl
flat-runs f (x ∷ l) = go (eqb x separator) (flat-runs f l) (flat-runs (get_or l 0 separator) l)
  where
    go : (b : Bool) → flat f l ≡ along f (runs l).first ++ edges (full (runs l).rest)
        → flat (get_or l 0 separator) l ≡ along (get_or l 0 separator) (runs l).first ++ edges (full (runs l).rest)
        → emit b (edge x (cond (eqb (get_or l 0 separator) separator) f (get_or l 0 separator))) (flat (cond b (get_or l 0 separator) f) l)
        ≡ along f (onto b x (runs l)).first ++ edges (full (onto b x (runs l)).rest)
    go true p q = q ∙ rw (lead-edges, ← first_entry)
    go false p q = rw (← next_entry, p)

-- the edges read off the whole list are those of the faces
pub flat-faces : (l : List ℕ) → flat (head l 0) l ≡ edges (faces l)
unfolding faces head
flat-faces l = flat-runs (get_or l 0 separator) l ∙ rw (lead-edges, ← first_entry)

-- one place further
abbrev here : List ℕ → ℕ → ℕ
here l i = get_or l i separator

module _ (l : List ℕ) (i : ℕ) (h : i < length l) where
  flat_step : edges_from l i ≡ emit (eqb (here l i) separator) (edge_at l i) (edges_from l (i + 1))
  unfolding flat head
  flat_step = simp (add-one, drop-cons l i separator h, get_or-drop, add-zero)

  pub count_step : (d : Edge) → count d (edges_from l i)
      ≡ hits_at l i d + count d (edges_from l (i + 1))
  unfolding count
  count_step d = rw flat_step (go (eqb (here l i) separator))
    where
      go : (b : Bool) → count d (emit b (edge_at l i) (edges_from l (i + 1)))
          ≡ cond b 0 (hits d (edge_at l i)) + count d (edges_from l (i + 1))
      go true = omega arith
      go false = refl

  -- the edge at i, if there is one, occurs k times behind it
  module _ (p n k : ℕ) (later : k ≡ later_at l i) where
    after : Bool → Bool
    after b = paired p n (emit b (edge_at l i) (edges_from l (i + 1)))

    later_if : Bool → ℕ
    later_if b = cond b 0 (count (edge_at l i) (edges_from l (i + 1)))

    -- at most once: the check goes on
    pub paired_on : (m : ℕ) → m ≡ cond (not (eqb (here l i) separator)) 1 0 → k ≤ 1
        → paired p n (edges_from l i) ≡ paired (p + k) (n + m) (edges_from l (i + 1))
    unfolding paired after later_if
    paired_on m one few = rw flat_step (go (eqb (here l i) separator) later one)
      where
        go : (b : Bool) → k ≡ later_if b → m ≡ cond (not b) 1 0 → after b ≡ paired (p + k) (n + m) (edges_from l (i + 1))
        go true q r = rw (q, r, add-zero, add-zero)
        go false q r = rw (r, ← q, le-leb k 1 few)

    -- more than once: the surface is not closed
    pub paired_off : 1 < k → paired p n (edges_from l i) ≡ false
    unfolding paired after later_if
    paired_off many = rw flat_step (go (eqb (here l i) separator) later)
      where
        go : (b : Bool) → k ≡ later_if b → after b ≡ false
        go true q = absurd (omega arith)
        go false q = rw (← q, lt-leb k 1 many)

-- past the last entry no edge is left
pub none_from : (l : List ℕ) (i : ℕ) → length l ≤ i → edges_from l i ≡ []
unfolding flat
none_from l i h = rw (drop_of_length-le l h)

-- a face begins at k where the entry before is a separator (true), else its first node is that of the place before
pub head_back : (l : List ℕ) (k : ℕ) (b : Bool) → 0 < k → eqb (get_or l (k - 1) separator) separator ≡ b
    → head l k ≡ cond b (get_or l k separator) (head l (k - 1))
unfolding head
head_back l zero b h e = absurd (omega arith)
head_back l (suc k) b h e = let p : suc k - 1 ≡ k = omega arith in rw (p, rw p at e)

-- an edge ends in no separator
head_id : (l : List ℕ) (i : ℕ) → (get_or l i separator ≡ separator → ⊥) → head l i ≡ separator → ⊥
unfolding head
head_id l zero h e = h e
head_id l (suc i) h e = go (eqb (get_or l i separator) separator) refl (head_id l i) e
  where
    go : (b : Bool) → eqb (get_or l i separator) separator ≡ b
        → ((get_or l i separator ≡ separator → ⊥) → head l i ≡ separator → ⊥)
        → cond b (get_or l (suc i) separator) (head l i) ≡ separator → ⊥
    go true q before e = h e
    go false q before e = before (eqb-false _ _ q) e

pub follower_id : (l : List ℕ) (i : ℕ) → (get_or l i separator ≡ separator → ⊥) → follower l i ≡ separator → ⊥
follower_id l i h e = go (eqb (get_or l (i + 1) separator) separator) refl e
  where
    go : (b : Bool) → eqb (get_or l (i + 1) separator) separator ≡ b
        → cond b (head l i) (get_or l (i + 1) separator) ≡ separator → ⊥
    go true q e = head_id l i h e
    go false q e = eqb-false _ _ q e

-- how the edge from the entry x to y hits the one between a and b
module _ (a b x y : ℕ) where
  no_hit : (x ≡ a → ⊥) → (x ≡ b → ⊥) → hits (edge a b) (edge x y) ≡ 0
  no_hit n m =
      let na : a ≡ x → ⊥ = λ p. n (sym p) in
      let nb : b ≡ x → ⊥ = λ p. m (sym p) in
      rw (ne_eqb a x na, ne_eqb b x nb) (go (eqb a y))
    where
      go : (q : Bool) → ◌≡◌ {A = ℕ} (cond (q && false) 1 0) 0
      go true = refl
      go false = refl

  -- a separator is no end of an edge, so it need not be told apart
  pub hit_any : (a ≡ separator → ⊥) → (b ≡ separator → ⊥)
      → hits (edge a b) (edge x y) ≡ cond (eqb x separator) 0 (hits (edge a b) (edge x y))
  hit_any n m = go (eqb x separator) refl
    where
      go : (s : Bool) → eqb x separator ≡ s → hits (edge a b) (edge x y) ≡ cond s 0 (hits (edge a b) (edge x y))
      go true e =
          let q = eqb-true x separator e in
          no_hit (λ p. n (sym p ∙ q)) (λ p. m (sym p ∙ q))
      go false e = refl

  hit_none : (x ≡ a → ⊥) → (x ≡ b → ⊥) → cond (eqb x separator) 0 (hits (edge a b) (edge x y)) ≡ 0
  hit_none n m = rw (no_hit n m) (go (eqb x separator))
    where
      go : (s : Bool) → ◌≡◌ {A = ℕ} (cond s 0 0) 0
      go true = refl
      go false = refl

or-none : (p q : Bool) → (p || q) ≡ false → (p ≡ false) × (q ≡ false)
or-none true q h = absurd (false≢true (sym h))
or-none false q h = (refl, h)

-- an entry that is neither a nor b can be passed over
pub pass : (l : List ℕ) (i a b : ℕ) → i < length l → (eqb (get_or l i 0) a || eqb (get_or l i 0) b) ≡ false
    → count (edge a b) (edges_from l (i + 1)) ≡ count (edge a b) (edges_from l i)
pass l i a b h t =
    let n = or-none (eqb (get_or l i 0) a) (eqb (get_or l i 0) b) t in
    let d = within_default l i 0 separator h in
    let z = hit_none a b (here l i) (follower l i) (λ e. eqb-false _ _ n.0 (d ∙ e)) (λ e. eqb-false _ _ n.1 (d ∙ e)) in
    omega (arith, count_step l i h (edge a b))
