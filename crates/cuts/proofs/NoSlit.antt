-- No slit: each kind passes its test, and the sum over a list is the sum of its cells'.
use mathlib.Core.Path.{◌≡◌, refl, sym, ◌∙◌, ap}
use mathlib.Core.Bool.{Bool, true, false, cond, ◌||◌, false≢true}
use mathlib.Core.List.{List, [], ◌∷◌, ◌++◌, map}
use mathlib.Core.Logic.{inl, inr}
use Prim.Native.Nat.{ℕ, ◌+◌, ◌*◌, ◌≤◌, min}
use native.Mathlib.Omega.{arith}
use lib.Dec.{T, eqb}
use lib.ListN.{get_or, length}
use borrow.Author.Tests.{eqb-true, eqb-false}
use Rattle.base.specs.Kinds.{nodes_of}
use Rattle.base.specs.Gather.{pick, digits, corners}
use Rattle.cuts.specs.Smallest.{smallest_pos, first_diagonal}
use Rattle.cuts.specs.Rows.{branch, tet_rows, wedge_quads, wedge_first, wedge_second, renumberings, case_of}
use Rattle.cuts.specs.Split.{cut, simplexes, split, split_kind}
use Rattle.cuts.specs.Table.{hex_table, used, hex_place}
use Rattle.cuts.specs.Triangle.{Tri, flip, count, total, tet_tris}
use Rattle.cuts.specs.Demand3.{Cell, Proper, AllProper, Distinct, OnceOrTwice, tet_faces, wedge_faces, hex_faces, outer, inside, outside, splits, outsides}
use Rattle.cuts.proofs.Table.{pick-pick, one_row_two_steps}
use Rattle.cuts.proofs.KindTest.{fours}
use Rattle.cuts.proofs.Winding.{count-append}
use Rattle.cuts.proofs.OneCell.{Sound, cell, split_by, sub-eq}

-- what demand 3 rests on, of the ids of a split's tetrahedra and the triangles of the outer faces
pub record Whole (ids : List ℕ) (os : List Tri) : Type 0 where
  pub sound : Sound (tet_tris ids) os
  pub full : T (fours ids)

tet_whole : (ids : List ℕ) → length ids ≡ 4 → Distinct ids → Whole (split 11 ids) (outer tet_faces ids)
unfolding split cut split_kind simplexes nodes_of
tet_whole ids l d =
    let w = cell 4 tet_faces (λ m. []) (λ m bs. corners 4 tet_rows) tt (omega arith) ids l d in
    record { sound = w.0; full = w.1 }

wedge_whole : (ids : List ℕ) → length ids ≡ 6 → Distinct ids → Whole (split 13 ids) (outer wedge_faces ids)
unfolding split cut split_kind simplexes nodes_of
wedge_whole ids l d =
    let w = cell 6 wedge_faces (λ m. digits 4 (branch wedge_quads 0 m) ∷ [])
    (λ m bs. corners 4 (branch (cond (get_or bs 0 true) wedge_first wedge_second) [] m)) tt (omega arith) ids l d in
    record { sound = w.0; full = w.1 }

-- the brick's quads in the corners that it came with, and its rows of the table
abbrev hex_quads : ℕ → List (List ℕ)
hex_quads m = map (λ quad. pick (digits 8 (branch renumberings 0 m)) (digits 4 quad)) (4567 ∷ 1265 ∷ 2376 ∷ [])

abbrev hex_row : ℕ → List Bool → List ℕ
hex_row m bs = corners 4 (used (get_or hex_table (min m 7 * 8 + case_of (get_or bs 0 true) (get_or bs 1 true) (get_or bs 2 true)) []))

ap₃ : (f : Bool → Bool → Bool → List ℕ) {a x b y c z : Bool} → a ≡ x → b ≡ y → c ≡ z → f a b c ≡ f x y z
ap₃ f p q r = λ i. f (p i) (q i) (r i)

-- a brick's split is that by its row of the table
by_table : (ids : List ℕ) → split 15 ids ≡ split_by hex_quads hex_row ids
unfolding split cut split_kind simplexes nodes_of hex_place
by_table ids =
    sym (one_row_two_steps ids)
    ∙ ap₃ (λ a b c. pick ids (corners 4 (used (get_or hex_table (min (smallest_pos ids) 7 * 8 + case_of a b c) []))))
    (ap first_diagonal (pick-pick ids p (digits 4 4567) tt))
    (ap first_diagonal (pick-pick ids p (digits 4 1265) tt))
    (ap first_diagonal (pick-pick ids p (digits 4 2376) tt))
  where
    p : List ℕ
    p = digits 8 (branch renumberings 0 (smallest_pos ids))

-- the inner triangles cancel in every row: one test over the whole table, carried to each brick
hex_whole : (ids : List ℕ) → length ids ≡ 8 → Distinct ids → Whole (split 15 ids) (outer hex_faces ids)
unfolding pick
hex_whole ids l d =
    let w = cell 8 hex_faces hex_quads hex_row tt (omega arith) ids l d in
    rw (by_table ids) (record { sound = w.0; full = w.1 })

-- the kind decides which
pub cell_whole : (c : Cell) → Proper c → Whole (split c.kind c.ids) (outside c)
unfolding nodes_of
cell_whole c p = go (eqb c.kind 11) (eqb c.kind 13) (eqb c.kind 15) refl refl refl p.solid
  where
    ids : List ℕ
    ids = c.ids

    long : (k : ℕ) → c.kind ≡ k → length ids ≡ nodes_of k
    long k e = p.whole ∙ ap nodes_of e

    go : (x y z : Bool) → eqb c.kind 11 ≡ x → eqb c.kind 13 ≡ y → eqb c.kind 15 ≡ z → (x || (y || z)) ≡ true
        → Whole (split c.kind ids) (outer (cond x tet_faces (cond y wedge_faces (cond z hex_faces []))) ids)
    go true y z e f g h = let k = eqb-true c.kind 11 e in rw k (tet_whole ids (long 11 k) p.distinct)
    go false true z e f g h = let k = eqb-true c.kind 13 f in rw k (wedge_whole ids (long 13 k) p.distinct)
    go false false true e f g h = let k = eqb-true c.kind 15 g in rw k (hex_whole ids (long 15 k) p.distinct)
    go false false false e f g h = absurd (false≢true h)

tets_append : (xs ys : List ℕ) → T (fours xs) → tet_tris (xs ++ ys) ≡ tet_tris xs ++ tet_tris ys
tets_append [] ys h = refl
tets_append (a ∷ []) ys h = absurd h
tets_append (a ∷ b ∷ []) ys h = absurd h
tets_append (a ∷ b ∷ c ∷ []) ys h = absurd h
tets_append (a ∷ b ∷ c ∷ d ∷ xs) ys h = rw (tets_append xs ys h)

-- over a list of cells, in natural numbers
balanced : (cs : List Cell) → AllProper cs → (t : Tri)
    → count t (tet_tris (splits cs)) + count (flip t) (outsides cs) ≡ count (flip t) (tet_tris (splits cs)) + count t (outsides cs)
balanced [] h t = refl
balanced (c ∷ cs) h t =
    let w = cell_whole c h.0 in
    rw (tets_append (split c.kind c.ids) (splits cs) w.full)
    (omega (
      arith,
      w.sound.bal t,
      balanced cs h.1 t,
      count-append t (inside c) (tet_tris (splits cs)),
      count-append (flip t) (inside c) (tet_tris (splits cs)),
      count-append t (outside c) (outsides cs),
      count-append (flip t) (outside c) (outsides cs),
    ))

pub total-over : (cs : List Cell) → AllProper cs → (t : Tri) → total t (tet_tris (splits cs)) ≡ total t (outsides cs)
total-over cs h t =
    sub-eq (count t (tet_tris (splits cs))) (count (flip t) (tet_tris (splits cs))) (count t (outsides cs)) (count (flip t) (outsides cs))
    (balanced cs h t)

pub once_or_twice : {ts os : List Tri} → Sound ts os → (t : Tri) → 1 ≤ count t ts → OnceOrTwice ts os t
once_or_twice {ts} {os} s t h = go (eqb (count t os) 1) refl
  where
    go : (b : Bool) → eqb (count t os) 1 ≡ b → OnceOrTwice ts os t
    go true e =
        let k = eqb-true (count t os) 1 e in
        inl (omega (arith, s.bal t, s.one t, s.two t), omega (arith, s.bal t, s.one t, s.two t), k)
    go false e =
        let k : (count t os ≡ 1 → ⊥) = eqb-false (count t os) 1 e in
        inr (omega (arith, s.bal t, s.one t, s.one (flip t), s.two t))

pub outer_once : {ts os : List Tri} → Sound ts os → (t : Tri) → 1 ≤ count t os → count t ts ≡ 1
outer_once s t h = omega (arith, s.bal t, s.one t, s.two t)
