-- The faces of a cell's poly form: the sub-entities of codimension 1, each a cycle, with every edge there exactly twice.
use mathlib.Core.Path.{◌≡◌, refl, ap, ◌∙◌}
use mathlib.Core.Bool.{Bool, true, false, cond, ◌&&◌, ◌||◌}
use mathlib.Core.List.{List, [], ◌∷◌, ◌++◌, append-nil, map}
use Prim.Native.Nat.{ℕ, zero, suc, ◌≤◌, ◌<◌}
use native.Mathlib.Omega.{arith}
use lib.Dec.{eqb, ltb}
use lib.ListN.{length, get_or, get_or-eq_default}
use borrow.Author.Tests.{eqb-false, ltb-true}
use Rattle.base.specs.Checks.{element_refusal, holds_separator, strays}
use Rattle.base.specs.Gather.{pick}
use Rattle.base.specs.Kinds.{separator, nodes_of}
use Rattle.base.proofs.Accepted.{element_accepted, element_nodes}
use Rattle.base.proofs.Picks.{length-pick, pick-append}
use Rattle.base.proofs.Tests.{and-true}
use Rattle.faces.specs.Faces.{onto, runs, lead, full, faces, further, joined}
use Rattle.parts.specs.Tables.{parts_of, table_of}
use Rattle.parts.specs.Poly.{poly_parts, rows_of, poly_ids}

-- HEX8's poly form has its sub-entities in the order 0 1 2 4 3 5; TET4 and WEDGE6 have them as they stand
pub tet_rows_lem : rows_of (poly_parts 11) ≡ rows_of (parts_of 11 1)
tet_rows_lem = refl

pub wedge_rows : rows_of (poly_parts 13) ≡ rows_of (parts_of 13 1)
wedge_rows = refl

pub hex_rows_lem : rows_of (poly_parts 15) ≡ map (λ i. get_or (rows_of (parts_of 15 1)) i []) (0 ∷ 1 ∷ 2 ∷ 4 ∷ 3 ∷ 5 ∷ [])
unfolding table_of nodes_of
hex_rows_lem = refl

-- a run that a separator ends, and a run that the list ends
run_then : (f r : List ℕ) → holds_separator f ≡ false
    → runs (f ++ separator ∷ r) ≡ record { first = f; rest = (runs r).first ∷ (runs r).rest }
unfolding runs holds_separator
run_then [] r h = refl
run_then (x ∷ f) r h = go (eqb x separator) refl (run_then f r) h
  where
    go : (b : Bool) → eqb x separator ≡ b
        → (holds_separator f ≡ false → runs (f ++ separator ∷ r) ≡ record { first = f; rest = (runs r).first ∷ (runs r).rest })
        → (b || holds_separator f) ≡ false
        → onto b x (runs (f ++ separator ∷ r)) ≡ record { first = x ∷ f; rest = (runs r).first ∷ (runs r).rest }
    go true e ih t = absurd (eqb-false 1 0 refl (ap (λ (c : Bool). cond c 1 0) t))
    go false e ih t = rw (ih t)

run_alone : (f : List ℕ) → holds_separator f ≡ false → runs f ≡ record { first = f; rest = [] }
unfolding runs holds_separator
run_alone [] h = refl
run_alone (x ∷ f) h = go (eqb x separator) refl (run_alone f) h
  where
    go : (b : Bool) → eqb x separator ≡ b → (holds_separator f ≡ false → runs f ≡ record { first = f; rest = [] })
        → (b || holds_separator f) ≡ false → onto b x (runs f) ≡ record { first = x ∷ f; rest = [] }
    go true e ih t = absurd (eqb-false 1 0 refl (ap (λ (c : Bool). cond c 1 0) t))
    go false e ih t = rw (ih t)

-- none of the faces is empty, and none has a separator
abbrev Clean : List (List ℕ) → Type 0
Clean [] = Unit
Clean (f ∷ fs) = (0 < length f) × (holds_separator f ≡ false) × Clean fs

lead-some : (f : List ℕ) (fs : List (List ℕ)) → 0 < length f → lead f fs ≡ f ∷ fs
lead-some [] fs h = absurd (omega arith)
lead-some (x ∷ f) fs h = refl

-- faces joined by separators are read back
faces-joined : (fs : List (List ℕ)) → Clean fs → faces (joined separator fs) ≡ fs
unfolding faces full runs joined further
faces-joined [] c = refl
faces-joined (f ∷ []) c = rw (append-nil f, run_alone f c.1) (lead-some f [] c.0)
faces-joined (f ∷ g ∷ fs) c =
    rw (run_then f (joined separator (g ∷ fs)) c.1)
    (lead-some f (faces (joined separator (g ∷ fs))) c.0 ∙ ap (λ (gs : List (List ℕ)). f ∷ gs) (faces-joined (g ∷ fs) c.2))

-- each corner of each row is below n, and no row is empty
abbrev row_fits : ℕ → List ℕ → Bool
row_fits n [] = true
row_fits n (c ∷ row) = ltb c n && row_fits n row

abbrev rows_fit : ℕ → List (List ℕ) → Bool
rows_fit n [] = true
rows_fit n (row ∷ rows) = (ltb 0 (length row) && row_fits n row) && rows_fit n rows

-- an id of a list without separators is none
clean_at : (ids : List ℕ) (i : ℕ) → holds_separator ids ≡ false → i < length ids → eqb (get_or ids i separator) separator ≡ false
unfolding holds_separator
clean_at [] i h l = absurd (omega arith)
clean_at (x ∷ ids) zero h l = go (eqb x separator) h
  where
    go : (b : Bool) → (b || holds_separator ids) ≡ false → b ≡ false
    go true t = t
    go false t = refl
clean_at (x ∷ ids) (suc i) h l = clean_at ids i (go (eqb x separator) h) (omega arith)
  where
    go : (b : Bool) → (b || holds_separator ids) ≡ false → holds_separator ids ≡ false
    go true t = absurd (eqb-false 1 0 refl (ap (λ (c : Bool). cond c 1 0) t))
    go false t = t

module _ (ids : List ℕ) (clean : holds_separator ids ≡ false) where
  clean_pick : (row : List ℕ) → row_fits (length ids) row ≡ true → holds_separator (pick ids row) ≡ false
  unfolding pick holds_separator
  clean_pick [] h = refl
  clean_pick (c ∷ row) h =
      let t = and-true (ltb c (length ids)) (row_fits (length ids) row) h in
      rw (clean_at ids c clean (ltb-true c (length ids) t.0)) (clean_pick row t.1)

  clean_rows : (rows : List (List ℕ)) → rows_fit (length ids) rows ≡ true → Clean (map (pick ids) rows)
  clean_rows [] h = tt
  clean_rows (row ∷ rows) h =
      let t = and-true (ltb 0 (length row) && row_fits (length ids) row) (rows_fit (length ids) rows) h in
      let u = and-true (ltb 0 (length row)) (row_fits (length ids) row) t.0 in
      (rw length-pick (ltb-true 0 (length row) u.0), clean_pick row u.1, clean_rows rows t.1)

-- corner 10 of a cell of at most 10 nodes is the separator
module _ (ids : List ℕ) (few : length ids ≤ 10) where
  pick-further : (rows : List (List ℕ)) → pick ids (further 10 rows) ≡ further separator (map (pick ids) rows)
  unfolding pick further
  pick-further [] = refl
  pick-further (f ∷ rows) = rw (get_or-eq_default ids separator few, pick-append ids f (further 10 rows), pick-further rows)

  pick-joined : (rows : List (List ℕ)) → pick ids (joined 10 rows) ≡ joined separator (map (pick ids) rows)
  unfolding pick joined
  pick-joined [] = refl
  pick-joined (f ∷ rows) = rw (pick-append ids f (further 10 rows), pick-further rows)

-- TET4, WEDGE6 and HEX8
pub data Solid : ℕ → Type 0 where
  tet4 : Solid 11
  wedge6 : Solid 13
  hex8 : Solid 15

solid_fits : {kind : ℕ} → Solid kind → rows_fit (nodes_of kind) (rows_of (poly_parts kind)) ≡ true
unfolding table_of nodes_of
solid_fits tet4 = refl
solid_fits wedge6 = refl
solid_fits hex8 = refl

pub solid_nodes : {kind : ℕ} → Solid kind → (nodes_of kind ≡ 0 → ⊥) × (nodes_of kind ≤ 10) × (eqb kind 19 ≡ false)
unfolding nodes_of
solid_nodes tet4 = (λ e. omega arith, omega arith, refl)
solid_nodes wedge6 = (λ e. omega arith, omega arith, refl)
solid_nodes hex8 = (λ e. omega arith, omega arith, refl)

solid_ids : {kind : ℕ} → Solid kind → (ids : List ℕ) → poly_ids kind ids ≡ pick ids (joined 10 (rows_of (poly_parts kind)))
unfolding poly_ids
solid_ids tet4 ids = refl
solid_ids wedge6 ids = refl
solid_ids hex8 ids = refl

-- the faces of the poly form of a cell are its rows of corners, picked from its ids
pub poly_faces : {kind : ℕ} → Solid kind → (ids : List ℕ) → element_refusal kind ids ≡ 0
    → faces (poly_ids kind ids) ≡ map (pick ids) (rows_of (poly_parts kind))
unfolding strays
poly_faces {kind} s ids ok =
    let n = solid_nodes s in
    let whole : length ids ≡ nodes_of kind = element_nodes kind ids ok n.0 in
    let few : length ids ≤ 10 = omega (arith, n.1) in
    let clean : holds_separator ids ≡ false = simp n.2 at (element_accepted kind ids ok).clean in
    let fits : rows_fit (length ids) (rows_of (poly_parts kind)) ≡ true = rw whole (solid_fits s) in
    rw (solid_ids s ids, pick-joined ids few (rows_of (poly_parts kind))) (faces-joined _ (clean_rows ids clean (rows_of (poly_parts kind)) fits))
