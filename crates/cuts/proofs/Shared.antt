-- A quad that two cells share as opposite cycles: the smallest id picks one diagonal, wherever the cycle begins and
-- whichever way it runs.
use mathlib.Core.Path.{◌≡◌, refl, sym, ◌∙◌, ap, ap₂}
use mathlib.Core.Bool.{Bool, true, false, cond, not, ◌&&◌, ◌||◌, and_comm, or_comm}
use mathlib.Core.List.{List, [], ◌∷◌}
use Prim.Native.Nat.{ℕ, zero, suc, ◌≤◌, ◌<◌}
use native.Mathlib.Omega.{arith}
use lib.Dec.{T, T_not, eqb, leb, ltb, ltb→lt}
use lib.ListN.{get_or, length}
use borrow.Author.Tests.{eq-eqb, eqb-true, leb-true, leb-false, le-leb, lt-leb, lt-ltb, le-ltb}
use Rattle.base.specs.Kinds.{nodes_of, separator}
use Rattle.base.specs.Gather.{pick}
use Rattle.base.proofs.Picks.{length-pick, pick_at, within_default}
use Rattle.cuts.specs.Smallest.{first_diagonal}
use Rattle.cuts.specs.Triangle.{Tri, tri, same, flip, count, cut_face, face_tris}
use Rattle.cuts.specs.Demand3.{Cell, Proper, Distinct, Opposite, reversed, turned, outer, inside, faces_of, face_of, tet_faces, wedge_faces, hex_faces}
use Rattle.cuts.proofs.Laws.{and_left, and_right, or_else, all}
use Rattle.cuts.proofs.NoSlit.{cell_whole, outer_once}
use Rattle.cuts.proofs.Least.{by_comparisons}
use Rattle.cuts.proofs.Winding.{bit, same_rot, same-flip, count-append}

-- neighbours on the cycle differ
pub record Apart (a b c d : ℕ) : Type 0 where
  pub ab : a ≡ b → ⊥
  pub bc : b ≡ c → ⊥
  pub cd : c ≡ d → ⊥
  pub da : d ≡ a → ⊥

module _ (a b : ℕ) (apart : a ≡ b → ⊥) where
  -- of two that differ the one is below exactly if the other is not
  leb_other : leb b a ≡ not (leb a b)
  leb_other = go (leb a b) refl
    where
      go : (p : Bool) → leb a b ≡ p → leb b a ≡ not p
      go true e = let h : a < b = omega (arith, leb-true a b e) in lt-leb b a h
      go false e = let h : b ≤ a = omega (arith, leb-false a b e) in le-leb b a h

  ltb_is : ltb a b ≡ leb a b
  ltb_is = go (leb a b) refl
    where
      go : (p : Bool) → leb a b ≡ p → ltb a b ≡ p
      go true e = let h : a < b = omega (arith, leb-true a b e) in lt-ltb a b h
      go false e = let h : b ≤ a = omega (arith, leb-false a b e) in le-ltb a b h

-- the tests of the other diagonal are those of the first, each the other way
module _ (a b c d : ℕ) (h : Apart a b c d) where
  other : ((not (leb c b) && not (leb a b)) || (not (leb a d) && not (leb c d))) ≡ not ((leb a b && leb a d) || (leb c d && leb c b))
  other = go (leb a b) (leb a d) (leb c d) (leb c b) refl refl refl refl
    where
      go : (p q r s : Bool) → leb a b ≡ p → leb a d ≡ q → leb c d ≡ r → leb c b ≡ s
          → ((not s && not p) || (not q && not r)) ≡ not ((p && q) || (r && s))
      go true true r true e f g k = refl
      go true true r false e f g k = refl
      go true false true true e f g k = refl
      go true false true false e f g k =
          absurd (omega (arith, leb-true a b e, leb-false a d f, leb-true c d g, leb-false c b k))
      go true false false true e f g k = refl
      go true false false false e f g k = refl
      go false true true true e f g k = refl
      go false true true false e f g k = refl
      go false true false true e f g k =
          let bc : (b ≡ c → ⊥) = h.bc in
          absurd (omega (arith, leb-false a b e, leb-true a d f, leb-false c d g, leb-true c b k))
      go false true false false e f g k = refl
      go false false true true e f g k = refl
      go false false true false e f g k = refl
      go false false false true e f g k = refl
      go false false false false e f g k = refl

module _ (a b c d : ℕ) (h : Apart a b c d) where
  cb : c ≡ b → ⊥
  cb e = h.bc (sym e)

  ad : a ≡ d → ⊥
  ad e = h.da (sym e)

  first : first_diagonal (a ∷ b ∷ c ∷ d ∷ []) ≡ ((leb a b && leb a d) || (leb c d && leb c b))
  first =
      let e : ((leb a b && leb a d) || (leb c d && ltb c b)) ≡ ((leb a b && leb a d) || (leb c d && leb c b)) = rw (ltb_is c b cb) in
      sym (by_comparisons a b c d) ∙ e

  -- from the next corner on the first diagonal is the second
  first_turned : first_diagonal (b ∷ c ∷ d ∷ a ∷ []) ≡ not (first_diagonal (a ∷ b ∷ c ∷ d ∷ []))
  first_turned =
      let e : ((leb b c && leb b a) || (leb d a && ltb d c)) ≡ ((not (leb c b) && not (leb a b)) || (not (leb a d) && not (leb c d))) =
      rw (ltb_is d c (λ e. h.cd (sym e)), leb_other c b cb, leb_other a b h.ab, leb_other a d ad, leb_other c d h.cd) in
      sym (by_comparisons b c d a) ∙ e ∙ other a b c d h ∙ ap not (sym first)

  -- and so it is run the other way
  first_reversed : first_diagonal (d ∷ c ∷ b ∷ a ∷ []) ≡ not (first_diagonal (a ∷ b ∷ c ∷ d ∷ []))
  first_reversed =
      let e : ((leb d c && leb d a) || (leb b a && ltb b c)) ≡ ((not (leb c d) && not (leb a d)) || (not (leb a b) && not (leb c b))) =
      rw (ltb_is b c h.bc, leb_other c d h.cd, leb_other a d ad, leb_other a b h.ab, leb_other c b cb) in
      sym (by_comparisons d c b a) ∙ e
      ∙ or_comm (not (leb c d) && not (leb a d)) (not (leb a b) && not (leb c b))
      ∙ ap₂ (λ (x y : Bool). x || y) (and_comm (not (leb a b)) (not (leb c b))) (and_comm (not (leb c d)) (not (leb a d)))
      ∙ other a b c d h ∙ ap not (sym first)

  -- the two triangles are the same from the next corner on
  pub tris_turned : (t : Tri) → count t (face_tris (b ∷ c ∷ d ∷ a ∷ [])) ≡ count t (face_tris (a ∷ b ∷ c ∷ d ∷ []))
  tris_turned t = rw first_turned (go (first_diagonal (a ∷ b ∷ c ∷ d ∷ [])))
    where
      go : (f : Bool) → count t (cut_face (not f) (b ∷ c ∷ d ∷ a ∷ [])) ≡ count t (cut_face f (a ∷ b ∷ c ∷ d ∷ []))
      go true = rw (same_rot t (tri a b c), same_rot t (tri a c d))
      go false = omega (arith, ap bit (same_rot t (tri a b d)))

  -- and in the other winding run the other way
  pub tris_reversed : (t : Tri) → count (flip t) (face_tris (d ∷ c ∷ b ∷ a ∷ [])) ≡ count t (face_tris (a ∷ b ∷ c ∷ d ∷ []))
  tris_reversed t = rw first_reversed (go (first_diagonal (a ∷ b ∷ c ∷ d ∷ [])))
    where
      -- the flipped triangle, from its third id on
      back : (x y z : ℕ) → bit (same (flip t) (tri z y x)) ≡ bit (same t (tri x y z))
      back x y z = ap bit (sym (same_rot (flip t) (tri z y x)) ∙ same-flip t (tri x y z))

      go : (f : Bool) → count (flip t) (cut_face (not f) (d ∷ c ∷ b ∷ a ∷ [])) ≡ count t (cut_face f (a ∷ b ∷ c ∷ d ∷ []))
      go true = omega (arith, back a c d, back a b c)
      go false = omega (arith, back b c d, back a b d)

-- neighbours differ, of a list that is a quad
abbrev ApartIn : List ℕ → Type 0
ApartIn q = length q ≡ 4 → Apart (get_or q 0 0) (get_or q 1 0) (get_or q 2 0) (get_or q 3 0)

-- opposite cycles fall into the same triangles, in opposite windings
opposite_tris : (q r : List ℕ) → Opposite q r → ApartIn q
    → ApartIn r × ((t : Tri) → count (flip t) (face_tris r) ≡ count t (face_tris q))
opposite_tris _ _ (reversed a b c d) h =
    let k = h refl in
    (λ _. record { ab = λ e. k.cd (sym e); bc = λ e. k.bc (sym e); cd = λ e. k.ab (sym e); da = λ e. k.da (sym e) }, tris_reversed a b c d k)
opposite_tris _ _ (turned q a b c d o) h =
    let i = opposite_tris q (a ∷ b ∷ c ∷ d ∷ []) o h in
    let k = i.0 refl in
    (λ _. record { ab = k.bc; bc = k.cd; cd = k.da; da = k.ab }, λ t. tris_turned a b c d k (flip t) ∙ i.1 t)

-- the corners at two places of a face are different places of a cell of n nodes
abbrev apart_at : ℕ → List ℕ → ℕ → ℕ → Bool
apart_at n face i j = ltb (get_or face i 0) n && (ltb (get_or face j 0) n && not (eqb (get_or face i 0) (get_or face j 0)))

-- so are neighbours of a quad
abbrev apart_test : ℕ → List ℕ → Bool
apart_test n face =
    not (eqb (length face) 4)
    || (apart_at n face 0 1 && (apart_at n face 1 2 && (apart_at n face 2 3 && apart_at n face 3 0)))

module _ (ids : List ℕ) (distinct : Distinct ids) (face : List ℕ) where
  differ : (i j : ℕ) → i < length face → j < length face → T (apart_at (length ids) face i j)
      → get_or (pick ids face) i 0 ≡ get_or (pick ids face) j 0 → ⊥
  differ i j l m h e =
      let a = get_or face i 0 in
      let b = get_or face j 0 in
      let n = length ids in
      let h2 = and_right (ltb a n) (ltb b n && not (eqb a b)) h in
      let a< = ltb→lt a n (and_left (ltb a n) (ltb b n && not (eqb a b)) h) in
      let b< = ltb→lt b n (and_left (ltb b n) (not (eqb a b)) h2) in
      T_not (eqb a b) (and_right (ltb b n) (not (eqb a b)) h2)
      (eq→T (distinct a b a< b<
      (within_default ids a 0 separator a< ∙ sym (pick_at ids face i l) ∙ e ∙ pick_at ids face j m ∙ within_default ids b separator 0 b<)))
    where
      eq→T : {x y : ℕ} → x ≡ y → T (eqb x y)
      eq→T {x} {y} e = rw (eq-eqb x y e) tt

  apart_face : T (apart_test (length ids) face) → ApartIn (pick ids face)
  apart_face h four =
      let l : length face ≡ 4 = sym (length-pick ids face) ∙ four in
      let n = length ids in
      let h0 = or_else (not (eqb (length face) 4)) (apart_at n face 0 1 && (apart_at n face 1 2 && (apart_at n face 2 3 && apart_at n face 3 0)))
      (rw (eq-eqb (length face) 4 l) (λ t. t)) h in
      let h1 = and_right (apart_at n face 0 1) (apart_at n face 1 2 && (apart_at n face 2 3 && apart_at n face 3 0)) h0 in
      let h2 = and_right (apart_at n face 1 2) (apart_at n face 2 3 && apart_at n face 3 0) h1 in
      record {
        ab = differ 0 1 (omega arith) (omega arith) (and_left (apart_at n face 0 1) (apart_at n face 1 2 && (apart_at n face 2 3 && apart_at n face 3 0)) h0);
        bc = differ 1 2 (omega arith) (omega arith) (and_left (apart_at n face 1 2) (apart_at n face 2 3 && apart_at n face 3 0) h1);
        cd = differ 2 3 (omega arith) (omega arith) (and_left (apart_at n face 2 3) (apart_at n face 3 0) h2);
        da = differ 3 0 (omega arith) (omega arith) (and_right (apart_at n face 2 3) (apart_at n face 3 0) h2);
      }

-- a test that every face passes, and no face too
all_faces : (test : List ℕ → Bool) (faces : List (List ℕ)) → T (all test faces) → T (test []) → (k : ℕ) → T (test (get_or faces k []))
all_faces test [] h e k = e
all_faces test (face ∷ faces) h e zero = and_left (test face) (all test faces) h
all_faces test (face ∷ faces) h e (suc k) = all_faces test faces (and_right (test face) (all test faces) h) e k

-- each kind's faces pass
faces_apart : (kind : ℕ) → T (all (apart_test (nodes_of kind)) (faces_of kind))
unfolding nodes_of
faces_apart kind = go (eqb kind 11) (eqb kind 13) (eqb kind 15) refl refl refl
  where
    go : (x y z : Bool) → eqb kind 11 ≡ x → eqb kind 13 ≡ y → eqb kind 15 ≡ z
        → T (all (apart_test (nodes_of kind)) (cond x tet_faces (cond y wedge_faces (cond z hex_faces []))))
    go true y z e f g = tt
    go false true z e f g = rw (eqb-true kind 13 f) tt
    go false false true e f g = rw (eqb-true kind 15 g) tt
    go false false false e f g = tt

-- a face's triangles are among those of all faces
face_count : (faces : List (List ℕ)) (ids : List ℕ) (k : ℕ) (t : Tri)
    → count t (face_tris (pick ids (get_or faces k []))) ≤ count t (outer faces ids)
unfolding pick
face_count [] ids k t = omega arith
face_count (face ∷ faces) ids zero t = omega (arith, count-append t (face_tris (pick ids face)) (outer faces ids))
face_count (face ∷ faces) ids (suc k) t =
    omega (arith, count-append t (face_tris (pick ids face)) (outer faces ids), face_count faces ids k t)

-- an outer face's triangle occurs once among the tetrahedra's
shown_face : (c : Cell) → Proper c → (k : ℕ) (t : Tri) → 1 ≤ count t (face_tris (face_of c k)) → count t (inside c) ≡ 1
shown_face c p k t h =
    outer_once (cell_whole c p).sound t (omega (arith, face_count (faces_of c.kind) c.ids k t))

pub shared_quad : (c e : Cell) → Proper c → Proper e → (k m : ℕ) → Opposite (face_of c k) (face_of e m)
    → (t : Tri) → 1 ≤ count t (face_tris (face_of c k)) → (count t (inside c) ≡ 1) × (count (flip t) (inside e) ≡ 1)
shared_quad c e p q k m o t h =
    let passed = all_faces (apart_test (nodes_of c.kind)) (faces_of c.kind) (faces_apart c.kind) tt k in
    let apart = apart_face c.ids p.distinct (get_or (faces_of c.kind) k []) (rw p.whole passed) in
    let there = (opposite_tris (face_of c k) (face_of e m) o apart).1 t in
    (shown_face c p k t h, shown_face e q m (flip t) (omega (arith, there)))
