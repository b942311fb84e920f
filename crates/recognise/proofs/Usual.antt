-- A list that is laid out as the poly forms are has the faces that stand at its known places, so the cell that it is can be
-- read off them.
use Prim.Native.Nat.{ℕ, zero, suc, ◌+◌, ◌≤◌, ◌<◌}
use mathlib.Core.Path.{◌≡◌, refl, sym, ap, ap₂, ◌∙◌}
use mathlib.Core.List.{List, [], ◌∷◌}
use mathlib.Core.Bool.{Bool, true, false, ◌&&◌}
use native.Mathlib.Omega.{arith}
use lib.Dec.{eqb, ltb}
use lib.ListN.{length, get_or, drop, drop_of_length-le, get_or-eq_default}
use lib.Seq.{drop-cons}
use borrow.Author.Tests.{ne_eqb, eqb-true, eqb-false, ltb-true, ltb-false, not-true}
use Rattle.base.specs.Gather.{pick}
use Rattle.base.specs.Kinds.{separator}
use Rattle.base.proofs.Tests.{and-true}
use Rattle.faces.specs.Edges.{along, edges}
use Rattle.faces.specs.Faces.{faces, full, runs}
use Rattle.shapes.specs.Seek.{nth}
use Rattle.shapes.specs.Wedge.{wedge}
use Rattle.surfaces.specs.Inner.Numbers.{edges_by}
use Rattle.recognise.specs.Inner.Laid.{is_node, face_at, laid_tet, laid_brick, laid_wedge, tet_nodes, brick_quads, wedge_tris, wedge_quads, closed_tet, closed_brick}
use Rattle.recognise.specs.Recognise.{from_faces, from_phed, mixed, nodes_in, other_length, regular, tally}

-- an entry that is a node is an entry of the list
node_within : (l : List ℕ) (i : ℕ) → is_node l i ≡ true → i < length l
node_within l i e = go (ltb i (length l)) refl
  where
    go : (s : Bool) → ltb i (length l) ≡ s → i < length l
    go true t = ltb-true i (length l) t
    go false t =
        absurd (eqb-false (nth l i) separator (not-true (eqb (nth l i) separator) e) (get_or-eq_default l separator (ltb-false i (length l) t)))

one_more : (l : List ℕ) (i j : ℕ) → is_node l i ≡ true → i + 1 ≡ j → drop i l ≡ nth l i ∷ drop j l
one_more l i j e h = let k : j ≡ suc i = omega arith in rw k (drop-cons l i separator (node_within l i e))

-- where no node stands a face ends, and those behind it follow
ends_at : (l : List ℕ) (i j : ℕ) → nth l i ≡ separator → i + 1 ≡ j
    → ((runs (drop i l)).first ≡ []) × (full (runs (drop i l)).rest ≡ faces (drop j l))
unfolding faces runs full
ends_at l i j e h = go (ltb i (length l)) refl
  where
    go : (s : Bool) → ltb i (length l) ≡ s → ((runs (drop i l)).first ≡ []) × (full (runs (drop i l)).rest ≡ faces (drop j l))
    go true t =
        let k : j ≡ suc i = omega arith in
        rw (drop-cons l i separator (ltb-true i (length l) t), e, k) (refl, refl)
    go false t =
        let n : length l ≤ i = ltb-false i (length l) t in
        let m : length l ≤ j = omega arith in
        rw (drop_of_length-le l n, drop_of_length-le l m) (refl, refl)

-- past the last entry there is no face
no_more : (l : List ℕ) (i : ℕ) → length l ≤ i → faces (drop i l) ≡ []
unfolding faces runs full
no_more l i h = rw (drop_of_length-le l h)

-- the n nodes from a place on
abbrev part : ℕ → List ℕ → ℕ → List ℕ
part zero l at = []
part (suc n) l at = nth l at ∷ part n l (at + 1)

module _ (l : List ℕ) where
  -- a face that stands at a place is the first run there
  run_at : (n at : ℕ) → face_at n l at ≡ true
      → ((runs (drop at l)).first ≡ part n l at) × (full (runs (drop at l)).rest ≡ faces (drop (at + n + 1) l))
  unfolding runs
  run_at zero at e = ends_at l at (at + 0 + 1) (eqb-true _ _ e) (omega arith)
  run_at (suc n) at e =
      let b = and-true (is_node l at) (face_at n l (at + 1)) e in
      let r = run_at n (at + 1) b.1 in
      let z : at + suc n + 1 ≡ at + 1 + n + 1 = omega arith in
      rw (z, one_more l at (at + 1) b.0 refl, not-true (eqb (nth l at) separator) b.0, r.0, r.1) (refl, refl)

  face_at_lem : (n at next : ℕ) → face_at (suc n) l at ≡ true → at + suc n + 1 ≡ next
      → faces (drop at l) ≡ part (suc n) l at ∷ faces (drop next l)
  unfolding faces
  face_at_lem n at next e h = let r = run_at (suc n) at e in rw (r.0, r.1, h) refl

  tet-faces : laid_tet l ≡ true → faces l ≡ part 3 l 0 ∷ part 3 l 4 ∷ part 3 l 8 ∷ part 3 l 12 ∷ []
  tet-faces e =
      let n = and-true (eqb (length l) 15) _ e in
      let a = and-true (face_at 3 l 0) _ n.1 in
      let b = and-true (face_at 3 l 4) _ a.1 in
      let c = and-true (face_at 3 l 8) (face_at 3 l 12) b.1 in
      let long : length l ≤ 16 = omega (arith, eqb-true (length l) 15 n.0) in
      face_at_lem 2 0 4 a.0 refl
      ∙ ap (λ (fs : List (List ℕ)). part 3 l 0 ∷ fs) (face_at_lem 2 4 8 b.0 refl
      ∙ ap (λ (fs : List (List ℕ)). part 3 l 4 ∷ fs) (face_at_lem 2 8 12 c.0 refl
      ∙ ap (λ (fs : List (List ℕ)). part 3 l 8 ∷ fs) (face_at_lem 2 12 16 c.1 refl
      ∙ ap (λ (fs : List (List ℕ)). part 3 l 12 ∷ fs) (no_more l 16 long))))

  brick-faces : laid_brick l ≡ true → faces l ≡ part 4 l 0 ∷ part 4 l 5 ∷ part 4 l 10 ∷ part 4 l 15 ∷ part 4 l 20 ∷ part 4 l 25 ∷ []
  brick-faces e =
      let n = and-true (eqb (length l) 29) _ e in
      let a = and-true (face_at 4 l 0) _ n.1 in
      let b = and-true (face_at 4 l 5) _ a.1 in
      let c = and-true (face_at 4 l 10) _ b.1 in
      let d = and-true (face_at 4 l 15) _ c.1 in
      let f = and-true (face_at 4 l 20) (face_at 4 l 25) d.1 in
      let long : length l ≤ 30 = omega (arith, eqb-true (length l) 29 n.0) in
      face_at_lem 3 0 5 a.0 refl
      ∙ ap (λ (fs : List (List ℕ)). part 4 l 0 ∷ fs) (face_at_lem 3 5 10 b.0 refl
      ∙ ap (λ (fs : List (List ℕ)). part 4 l 5 ∷ fs) (face_at_lem 3 10 15 c.0 refl
      ∙ ap (λ (fs : List (List ℕ)). part 4 l 10 ∷ fs) (face_at_lem 3 15 20 d.0 refl
      ∙ ap (λ (fs : List (List ℕ)). part 4 l 15 ∷ fs) (face_at_lem 3 20 25 f.0 refl
      ∙ ap (λ (fs : List (List ℕ)). part 4 l 20 ∷ fs) (face_at_lem 3 25 30 f.1 refl
      ∙ ap (λ (fs : List (List ℕ)). part 4 l 25 ∷ fs) (no_more l 30 long))))))

  wedge-faces : laid_wedge l ≡ true → faces l ≡ part 3 l 0 ∷ part 3 l 4 ∷ part 4 l 8 ∷ part 4 l 13 ∷ part 4 l 18 ∷ []
  wedge-faces e =
      let n = and-true (eqb (length l) 22) _ e in
      let a = and-true (face_at 3 l 0) _ n.1 in
      let b = and-true (face_at 3 l 4) _ a.1 in
      let c = and-true (face_at 4 l 8) _ b.1 in
      let d = and-true (face_at 4 l 13) (face_at 4 l 18) c.1 in
      let long : length l ≤ 23 = omega (arith, eqb-true (length l) 22 n.0) in
      face_at_lem 2 0 4 a.0 refl
      ∙ ap (λ (fs : List (List ℕ)). part 3 l 0 ∷ fs) (face_at_lem 2 4 8 b.0 refl
      ∙ ap (λ (fs : List (List ℕ)). part 3 l 4 ∷ fs) (face_at_lem 3 8 13 c.0 refl
      ∙ ap (λ (fs : List (List ℕ)). part 4 l 8 ∷ fs) (face_at_lem 3 13 18 d.0 refl
      ∙ ap (λ (fs : List (List ℕ)). part 4 l 13 ∷ fs) (face_at_lem 3 18 23 d.1 refl
      ∙ ap (λ (fs : List (List ℕ)). part 4 l 18 ∷ fs) (no_more l 23 long)))))

  -- such faces make the cell that the nodes at their places make
  tet_made : closed_tet (tet_nodes l) ≡ from_faces (part 3 l 0 ∷ part 3 l 4 ∷ part 3 l 8 ∷ part 3 l 12 ∷ [])
  unfolding from_faces regular other_length tally nodes_in pick edges_by edges along
  tet_made = refl

  brick_made : closed_brick (brick_quads l) ≡ from_faces (part 4 l 0 ∷ part 4 l 5 ∷ part 4 l 10 ∷ part 4 l 15 ∷ part 4 l 20 ∷ part 4 l 25 ∷ [])
  unfolding from_faces regular other_length tally nodes_in pick edges_by edges along
  brick_made = refl

  wedge_made : wedge (wedge_tris l) (wedge_quads l) ≡ from_faces (part 3 l 0 ∷ part 3 l 4 ∷ part 4 l 8 ∷ part 4 l 13 ∷ part 4 l 18 ∷ [])
  unfolding from_faces mixed other_length tally nodes_in pick
  wedge_made = refl

  pub laid_tet_lem : laid_tet l ≡ true → closed_tet (tet_nodes l) ≡ from_phed l
  laid_tet_lem e = tet_made ∙ ap from_faces (sym (tet-faces e))

  pub laid_brick_lem : laid_brick l ≡ true → closed_brick (brick_quads l) ≡ from_phed l
  laid_brick_lem e = brick_made ∙ ap from_faces (sym (brick-faces e))

  pub laid_wedge_lem : laid_wedge l ≡ true → wedge (wedge_tris l) (wedge_quads l) ≡ from_phed l
  laid_wedge_lem e = wedge_made ∙ ap from_faces (sym (wedge-faces e))

-- a row whose entries all pass the test is below n
abbrev all_below : ℕ → List ℕ → Bool
all_below n [] = true
all_below n (x ∷ list) = ltb x n && all_below n list

pub below : (n : ℕ) (list : List ℕ) → 0 < n → all_below n list ≡ true → (i : ℕ) → get_or list i 0 < n
below n [] h e i = h
below n (x ∷ list) h e zero = ltb-true x n (and-true (ltb x n) (all_below n list) e).0
below n (x ∷ list) h e (suc i) = below n list h (and-true (ltb x n) (all_below n list) e).1 i

-- one node more of a face that stands at a place, or none
pub face_more : (l : List ℕ) (i k m : ℕ) → k ≡ suc m → (nth l i ≡ separator → ⊥) → face_at k l i ≡ face_at m l (i + 1)
face_more l i k m e n = rw (e, ne_eqb (nth l i) separator n) refl

pub face-none : (l : List ℕ) (i k m : ℕ) → k ≡ suc m → nth l i ≡ separator → face_at k l i ≡ false
face-none l i k m e n = rw (e, n) refl

-- an array is the same as any that it equals entry by entry
pub each : {x y : ℕ} {l m : List ℕ} → x ≡ y → l ≡ m → x ∷ l ≡ y ∷ m
each e f = ap₂ (λ (x : ℕ) (l : List ℕ). x ∷ l) e f
