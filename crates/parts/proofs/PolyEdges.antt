-- In the poly form of a cell of distinct ids every undirected edge occurs exactly twice.
use mathlib.Core.Path.{◌≡◌, refl, ap, ◌∙◌}
use mathlib.Core.Bool.{Bool, true, false, ◌&&◌}
use mathlib.Core.List.{List, [], ◌∷◌, ◌++◌, map}
use Prim.Native.Nat.{ℕ, ◌<◌}
use lib.Dec.{eqb, ltb}
use lib.ListN.{length, get_or, get_or-map}
use borrow.Author.Tests.{eqb-true, eqb-false, eq-eqb, ne_eqb, ltb-true}
use Rattle.base.specs.Checks.{element_refusal}
use Rattle.base.specs.Gather.{pick}
use Rattle.base.specs.Kinds.{separator, nodes_of}
use Rattle.base.proofs.Accepted.{element_nodes}
use Rattle.base.proofs.Picks.{within_default}
use Rattle.base.proofs.Tests.{and-true}
use Rattle.faces.specs.Faces.{faces}
use Rattle.faces.specs.Edges.{Edge, edge, along, cycle, edges, same, count, twice, closed}
use Rattle.parts.specs.Tables.{table_of}
use Rattle.parts.specs.Poly.{poly_parts, rows_of, poly_ids}
use Rattle.parts.proofs.PolyFaces.{Solid, tet4, wedge6, hex8, solid_nodes, poly_faces}

-- both ends of each edge are below n
abbrev edges_fit : ℕ → List Edge → Bool
edges_fit n [] = true
edges_fit n (e ∷ es) = (ltb e.from n && ltb e.to n) && edges_fit n es

module _ (ids : List ℕ) where
  abbrev id : ℕ → ℕ
  id corner = get_or ids corner separator

  abbrev on_ids : Edge → Edge
  on_ids e = edge (id e.from) (id e.to)

  along_ids : (f : ℕ) (r : List ℕ) → along (id f) (pick ids r) ≡ map on_ids (along f r)
  unfolding along pick
  along_ids f [] = refl
  along_ids f (x ∷ r) = rw (get_or-map id r 0 f, along_ids f r)

  cycle_ids : (r : List ℕ) → cycle (pick ids r) ≡ map on_ids (cycle r)
  unfolding along pick
  cycle_ids [] = refl
  cycle_ids (x ∷ r) = along_ids x (x ∷ r)

  append_ids : (es fs : List Edge) → map on_ids (es ++ fs) ≡ map on_ids es ++ map on_ids fs
  append_ids [] fs = refl
  append_ids (e ∷ es) fs = ap (λ (l : List Edge). on_ids e ∷ l) (append_ids es fs)

  edges_ids : (rows : List (List ℕ)) → edges (map (pick ids) rows) ≡ map on_ids (edges rows)
  unfolding edges
  edges_ids [] = refl
  edges_ids (r ∷ rows) = rw (cycle_ids r, edges_ids rows, append_ids)

-- ids that differ at different places are told apart as their places are
module _ (ids : List ℕ) (distinct : (i j : ℕ) → i < length ids → j < length ids → get_or ids i 0 ≡ get_or ids j 0 → i ≡ j) where
  apart : (a b : ℕ) → a < length ids → b < length ids → eqb (id ids a) (id ids b) ≡ eqb a b
  apart a b h k = go (eqb a b) refl
    where
      equal : id ids a ≡ id ids b → a ≡ b
      equal e = distinct a b h k (within_default ids a 0 separator h ∙ e ∙ within_default ids b separator 0 k)

      go : (t : Bool) → eqb a b ≡ t → eqb (id ids a) (id ids b) ≡ t
      go true e = eq-eqb (id ids a) (id ids b) (ap (id ids) (eqb-true a b e))
      go false e = ne_eqb (id ids a) (id ids b) (λ q. eqb-false a b e (equal q))

  abbrev Fits : Edge → Type 0
  Fits e = (e.from < length ids) × (e.to < length ids)

  same_ids : (d e : Edge) → Fits d → Fits e → same (on_ids ids d) (on_ids ids e) ≡ same d e
  same_ids d e p q =
      rw (
        apart d.from e.from p.0 q.0,
        apart d.to e.to p.1 q.1,
        apart d.from e.to p.0 q.1,
        apart d.to e.from p.1 q.0,
      )

  head-fits : (e : Edge) (es : List Edge) → edges_fit (length ids) (e ∷ es) ≡ true → Fits e × (edges_fit (length ids) es ≡ true)
  head-fits e es h =
      let t = and-true (ltb e.from (length ids) && ltb e.to (length ids)) (edges_fit (length ids) es) h in
      let u = and-true (ltb e.from (length ids)) (ltb e.to (length ids)) t.0 in
      ((ltb-true e.from (length ids) u.0, ltb-true e.to (length ids) u.1), t.1)

  count_ids : (d : Edge) (es : List Edge) → Fits d → edges_fit (length ids) es ≡ true → count (on_ids ids d) (map (on_ids ids) es) ≡ count d es
  unfolding count
  count_ids d [] p h = refl
  count_ids d (e ∷ es) p h =
      let t = head-fits e es h in
      rw (same_ids d e p t.0, count_ids d es p t.1)

  twice_ids : (es ds : List Edge) → edges_fit (length ids) es ≡ true → edges_fit (length ids) ds ≡ true
      → twice (map (on_ids ids) es) (map (on_ids ids) ds) ≡ twice es ds
  unfolding twice
  twice_ids es [] h k = refl
  twice_ids es (d ∷ ds) h k =
      let t = head-fits d ds k in
      rw (count_ids d es t.0 h, twice_ids es ds h t.1)

solid_edges : {kind : ℕ} → Solid kind → edges_fit (nodes_of kind) (edges (rows_of (poly_parts kind))) ≡ true
unfolding table_of nodes_of edges along
solid_edges tet4 = refl
solid_edges wedge6 = refl
solid_edges hex8 = refl

-- the rule over the tables, by computation
pub rows_closed : {kind : ℕ} → Solid kind → closed (rows_of (poly_parts kind)) ≡ true
unfolding table_of nodes_of edges along twice count
rows_closed tet4 = refl
rows_closed wedge6 = refl
rows_closed hex8 = refl

-- and carried to the ids of each cell
pub poly_closed : {kind : ℕ} → Solid kind → (ids : List ℕ) → element_refusal kind ids ≡ 0
    → ((i j : ℕ) → i < length ids → j < length ids → get_or ids i 0 ≡ get_or ids j 0 → i ≡ j)
    → closed (faces (poly_ids kind ids)) ≡ true
poly_closed {kind} s ids ok distinct =
    let whole : length ids ≡ nodes_of kind = element_nodes kind ids ok (solid_nodes s).0 in
    let fits : edges_fit (length ids) (edges (rows_of (poly_parts kind))) ≡ true = rw whole (solid_edges s) in
    rw (poly_faces s ids ok, edges_ids ids (rows_of (poly_parts kind)))
    (twice_ids ids distinct (edges (rows_of (poly_parts kind))) (edges (rows_of (poly_parts kind))) fits fits ∙ rows_closed s)
