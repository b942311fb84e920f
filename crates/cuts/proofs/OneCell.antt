-- Demand 3 for one cell of any kind that passes the test: what holds of its corners holds of any distinct ids.
use mathlib.Core.Path.{◌≡◌, refl, sym, ◌∙◌, ap, subst}
use mathlib.Core.Bool.{Bool, true, false, cond, ◌&&◌, ◌||◌, beq}
use mathlib.Core.List.{List, [], ◌∷◌, ◌++◌, map}
use Prim.Native.Nat.{ℕ, suc, ◌+◌, ◌-◌, ◌≤◌, ◌<◌}
use native.Mathlib.Nat.{not-suc-le-zero}
use native.Mathlib.Omega.{arith}
use lib.Dec.{T, eqb, ltb, eqb→eq, ltb→lt}
use borrow.Author.Tests.{ltb-true, ltb-false, lt-ltb, le-ltb}
use lib.ListN.{get_or, length, length-map}
use lib.IntN.{pos, negsuc, sub_ℕ}
use Rattle.base.specs.Kinds.{separator}
use Rattle.base.specs.Gather.{pick}
use Rattle.base.proofs.Picks.{within_default}
use Rattle.cuts.specs.Smallest.{smallest_pos, first_diagonal, on_first}
use Rattle.cuts.specs.Triangle.{Tri, flip, count, tet_tris, cut_face}
use Rattle.cuts.specs.Demand3.{Distinct, outer}
use Rattle.cuts.proofs.Laws.{and_left, and_right, below, below_at, all, all_at, mem, sub, mem_at, get_d_mem, get_d_map}
use Rattle.cuts.proofs.KindTest.{fours, cancels, once, in_tris, good, all_bits, on_diag, rep, bit_by, outer_by, proper, turned, covered, face_test, kind_test}
use Rattle.cuts.proofs.Winding.{map_tri, map_tris, balance, count_minus, at_most_once, once_map}
use Rattle.cuts.proofs.Least.{smallest_in, smallest_least}

-- a − b is c − d where a + d is b + c
pub sub-eq : (a b c d : ℕ) → a + d ≡ b + c → sub_ℕ a b ≡ sub_ℕ c d
sub-eq a b c d h = go (ltb a b) refl
  where
    go : (p : Bool) → ltb a b ≡ p → cond p (negsuc (b - suc a)) (pos (a - b)) ≡ sub_ℕ c d
    go true e =
        let l = ltb-true a b e in
        let l' : c < d = omega arith in
        let n : b - suc a ≡ d - suc c = omega arith in
        rw (lt-ltb c d l', n)
    go false e =
        let l = ltb-false a b e in
        let l' : d ≤ c = omega arith in
        let n : a - b ≡ c - d = omega arith in
        rw (le-ltb c d l', n)

-- what a cell's tetrahedra and its outer faces have in common, in natural numbers
pub record Sound (ts os : List Tri) : Type 0 where
  pub bal : (t : Tri) → count t ts + count (flip t) os ≡ count (flip t) ts + count t os
  pub one : (t : Tri) → count t ts ≤ 1
  pub two : (t : Tri) → count t os + count (flip t) os ≤ 1

beq_eq : (a b : Bool) → T (beq a b) → a ≡ b
beq_eq true true h = refl
beq_eq true false h = absurd h
beq_eq false true h = absurd h
beq_eq false false h = refl

pub smallest_within : (l : List ℕ) → 0 < length l → smallest_pos l < length l
smallest_within [] h = absurd (not-suc-le-zero h)
smallest_within (x ∷ xs) h = smallest_in x xs

-- a triangle is not cut
three : (F : List ℕ) → length F ≡ 3 → (b b' : Bool) → cut_face b F ≡ cut_face b' F
three [] h b b' = absurd (omega arith)
three (x ∷ []) h b b' = absurd (omega arith)
three (x ∷ y ∷ []) h b b' = absurd (omega arith)
three (x ∷ y ∷ z ∷ []) h b b' = refl
three (x ∷ y ∷ z ∷ w ∷ r) h b b' = absurd (omega arith)

module _ (n : ℕ) (f : ℕ → ℕ) (inj : (i j : ℕ) → i < n → j < n → f i ≡ f j → i ≡ j) where
  -- a good row is sound after the renaming
  sound : (ts os : List Tri) → T (good n ts os) → Sound (map_tris f ts) (map_tris f os)
  sound ts os h =
      let os' = os ++ map flip os in
      let h2 = and_right (cancels 99 (ts ++ map flip os)) ((once ts && in_tris n ts) && (once os' && in_tris n os')) h in
      let h3 = and_left (once ts && in_tris n ts) (once os' && in_tris n os') h2 in
      let h4 = and_right (once ts && in_tris n ts) (once os' && in_tris n os') h2 in
      record {
        bal = balance f 99 ts os (and_left (cancels 99 (ts ++ map flip os)) ((once ts && in_tris n ts) && (once os' && in_tris n os')) h);
        one = at_most_once (map_tris f ts) (rw (once_map n f inj ts (and_right (once ts) (in_tris n ts) h3)) (and_left (once ts) (in_tris n ts) h3));
        two = λ t. omega (arith, count_minus f t os os, at_most_once (map_tris f os') (rw (once_map n f inj os' (and_right (once os') (in_tris n os') h4)) (and_left (once os') (in_tris n os') h4)) t);
      }

  -- the diagonal of a face of which l is the smallest corner
  agree : (F : List ℕ) → T (eqb (length F) 4) → T (all (λ x. ltb x n) F) → T (proper F) → (l : ℕ) → T (mem l F)
      → ((j : ℕ) → T (mem j F) → f l ≤ f j) → first_diagonal (map f F) ≡ on_diag F l
  agree F h4 hn hp l hl low =
      let four = eqb→eq (length F) 4 h4 in
      let k = smallest_pos (map f F) in
      let k< : k < length F = subst (λ (m : ℕ). k < m) (length-map F f) (smallest_within (map f F) (omega (arith, length-map F f))) in
      let j = mem_at l F hl in
      let at_most = smallest_least (map f F) j.0 (omega (arith, length-map F f, j.1)) in
      let e : f (get_or F k 0) ≡ f l = omega (arith, at_most, get_d_map f F k k<, get_d_map f F j.0 j.1, ap f j.2, low (get_or F k 0) (get_d_mem F k k<)) in
      let in-F : (i : ℕ) → i < length F → get_or F i 0 < n = λ i i<. ltb→lt (get_or F i 0) n (all_at (λ x. ltb x n) F hn i i<) in
      let e' : get_or F k 0 ≡ l = inj (get_or F k 0) l (in-F k k<) (subst (λ (x : ℕ). x < n) j.2 (in-F j.0 j.1)) e in
      beq_eq (on_first k) (on_diag F (get_or F k 0)) (below_at 4 (λ k. beq (on_first k) (on_diag F (get_or F k 0))) hp k (omega arith)) ∙ ap (on_diag F) e'

  pub bits : List (List ℕ) → List Bool
  bits Gs = map (λ (G : List ℕ). first_diagonal (map f G)) Gs

  -- a face that was searched in another order
  turned_ok : (F G : List ℕ) → T (eqb (length F) 4) → T (all (λ x. ltb x n) F) → T (proper F) → T (sub F G) → T (turned F G)
      → first_diagonal (map f F) ≡ on_diag F (rep (first_diagonal (map f G)) G)
  turned_ok F G h4 hn hp hs ht =
      let turn = below 4 (λ k. beq (on_diag F (get_or G k 0)) (on_diag F (rep (on_first k) G))) in
      let four = eqb→eq (length G) 4 (and_left (eqb (length G) 4) (sub G F && turn) ht) in
      let ht2 = and_right (eqb (length G) 4) (sub G F && turn) ht in
      let k = smallest_pos (map f G) in
      let k< : k < length G = subst (λ (m : ℕ). k < m) (length-map G f) (smallest_within (map f G) (omega (arith, length-map G f))) in
      let low : (j : ℕ) → T (mem j F) → f (get_or G k 0) ≤ f j = λ j hj.
      (let i = mem_at j F hj in
      let p = mem_at j G (subst (λ (x : ℕ). T (mem x G)) i.2 (all_at (λ x. mem x G) F hs i.0 i.1)) in
      omega (arith, smallest_least (map f G) p.0 (omega (arith, length-map G f, p.1)), get_d_map f G k k<, get_d_map f G p.0 p.1, ap f p.2)) in
      agree F h4 hn hp (get_or G k 0) (all_at (λ x. mem x F) G (and_left (sub G F) turn ht2) k k<) low
      ∙ beq_eq (on_diag F (get_or G k 0)) (on_diag F (rep (on_first k) G))
      (below_at 4 (λ k. beq (on_diag F (get_or G k 0)) (on_diag F (rep (on_first k) G))) (and_right (sub G F) turn ht2) k (omega arith))

  module _ (m : ℕ) (low : (j : ℕ) → j < n → f m ≤ f j) where
    bit_ok : (Gs : List (List ℕ)) (F : List ℕ) → T (eqb (length F) 4) → T (all (λ x. ltb x n) F) → T (proper F) → T (covered Gs m F)
        → first_diagonal (map f F) ≡ bit_by Gs (bits Gs) m F
    unfolding bits
    bit_ok [] F h4 hn hp hc =
        agree F h4 hn hp m hc (λ j hj. (let i = mem_at j F hj in low j (subst (λ (x : ℕ). x < n) i.2 (ltb→lt (get_or F i.0 0) n (all_at (λ x. ltb x n) F hn i.0 i.1)))))
    bit_ok (G ∷ Gs) F h4 hn hp hc = go (sub F G) refl hc (bit_ok Gs F h4 hn hp)
      where
        go : (b : Bool) → sub F G ≡ b → T (cond b (turned F G) (covered Gs m F))
            → (T (covered Gs m F) → first_diagonal (map f F) ≡ bit_by Gs (bits Gs) m F)
            → first_diagonal (map f F) ≡ cond b (on_diag F (rep (first_diagonal (map f G)) G)) (bit_by Gs (bits Gs) m F)
        go true e ht ih = turned_ok F G h4 hn hp (subst T (sym e) tt) ht
        go false e ht ih = ih ht

    face_ok : (Gs : List (List ℕ)) (F : List ℕ) → T (face_test n Gs m F) → cut_face (first_diagonal (map f F)) F ≡ cut_face (bit_by Gs (bits Gs) m F) F
    face_ok Gs F h = go (eqb (length F) 3) refl h
      where
        go : (b : Bool) → eqb (length F) 3 ≡ b → T (b || (eqb (length F) 4 && (all (λ x. ltb x n) F && (proper F && covered Gs m F))))
            → cut_face (first_diagonal (map f F)) F ≡ cut_face (bit_by Gs (bits Gs) m F) F
        go true e h = three F (eqb→eq (length F) 3 (subst T (sym e) tt)) (first_diagonal (map f F)) (bit_by Gs (bits Gs) m F)
        go false e h =
            let h1 = and_right (eqb (length F) 4) (all (λ x. ltb x n) F && (proper F && covered Gs m F)) h in
            let h2 = and_right (all (λ x. ltb x n) F) (proper F && covered Gs m F) h1 in
            ap (λ (b : Bool). cut_face b F)
            (bit_ok Gs F (and_left (eqb (length F) 4) (all (λ x. ltb x n) F && (proper F && covered Gs m F)) h)
            (and_left (all (λ x. ltb x n) F) (proper F && covered Gs m F) h1) (and_left (proper F) (covered Gs m F) h2) (and_right (proper F) (covered Gs m F) h2))

    outer_ok : (Gs Fs : List (List ℕ)) → T (all (face_test n Gs m) Fs) → outer_by (λ F. first_diagonal (map f F)) Fs ≡ outer_by (bit_by Gs (bits Gs) m) Fs
    outer_ok Gs [] h = refl
    outer_ok Gs (F ∷ Fs) h =
        rw (face_ok Gs F (and_left (face_test n Gs m F) (all (face_test n Gs m) Fs) h), outer_ok Gs Fs (and_right (face_test n Gs m F) (all (face_test n Gs m) Fs) h))

-- the renaming goes through the triangles
map-append : (f : ℕ → ℕ) (ts us : List Tri) → map_tris f (ts ++ us) ≡ map_tris f ts ++ map_tris f us
map-append f [] us = refl
map-append f (t ∷ ts) us = ap (λ (l : List Tri). map_tri f t ∷ l) (map-append f ts us)

tet-map : (f : ℕ → ℕ) (ps : List ℕ) → tet_tris (map f ps) ≡ map_tris f (tet_tris ps)
tet-map f [] = refl
tet-map f (a ∷ []) = refl
tet-map f (a ∷ b ∷ []) = refl
tet-map f (a ∷ b ∷ c ∷ []) = refl
tet-map f (a ∷ b ∷ c ∷ d ∷ r) = rw (tet-map f r)

fours_map : (f : ℕ → ℕ) (ps : List ℕ) → fours (map f ps) ≡ fours ps
fours_map f [] = refl
fours_map f (a ∷ []) = refl
fours_map f (a ∷ b ∷ []) = refl
fours_map f (a ∷ b ∷ c ∷ []) = refl
fours_map f (a ∷ b ∷ c ∷ d ∷ r) = fours_map f r

cut-map : (f : ℕ → ℕ) (b : Bool) (F : List ℕ) → cut_face b (map f F) ≡ map_tris f (cut_face b F)
cut-map f b [] = refl
cut-map f b (x ∷ []) = refl
cut-map f b (x ∷ y ∷ []) = refl
cut-map f b (x ∷ y ∷ z ∷ []) = refl
cut-map f true (x ∷ y ∷ z ∷ w ∷ []) = refl
cut-map f false (x ∷ y ∷ z ∷ w ∷ []) = refl
cut-map f b (x ∷ y ∷ z ∷ w ∷ v ∷ r) = refl

outer-map : (ids : List ℕ) (Fs : List (List ℕ)) → outer Fs ids ≡ map_tris (λ p. get_or ids p separator) (outer_by (λ F. first_diagonal (pick ids F)) Fs)
unfolding pick
outer-map ids [] = refl
outer-map ids (F ∷ Fs) =
    let f : ℕ → ℕ = λ p. get_or ids p separator in
    rw (cut-map f (first_diagonal (pick ids F)) F, outer-map ids Fs)
    (sym (map-append f (cut_face (first_diagonal (pick ids F)) F) (outer_by (λ F. first_diagonal (pick ids F)) Fs)))

all_bits_at : (p : List Bool → Bool) (bs : List Bool) → T (all_bits (length bs) p) → T (p bs)
all_bits_at p [] h = h
all_bits_at p (true ∷ bs) h = all_bits_at (λ cs. p (true ∷ cs)) bs (and_left (all_bits (length bs) (λ cs. p (true ∷ cs))) (all_bits (length bs) (λ cs. p (false ∷ cs))) h)
all_bits_at p (false ∷ bs) h = all_bits_at (λ cs. p (false ∷ cs)) bs (and_right (all_bits (length bs) (λ cs. p (true ∷ cs))) (all_bits (length bs) (λ cs. p (false ∷ cs))) h)

length_bits : (g : List ℕ → Bool) (Gs : List (List ℕ)) → length (map g Gs) ≡ length Gs
length_bits g [] = refl
length_bits g (G ∷ Gs) = ap suc (length_bits g Gs)

-- the split that goes by the smallest of the cell, and the diagonals of the quadrilaterals that are searched then
abbrev pub split_by : (ℕ → List (List ℕ)) → (ℕ → List Bool → List ℕ) → List ℕ → List ℕ
split_by quads row ids =
    pick ids (row (smallest_pos ids) (map (λ (G : List ℕ). first_diagonal (pick ids G)) (quads (smallest_pos ids))))

-- demand 3 for one cell
pub cell : (n : ℕ) (faces : List (List ℕ)) (quads : ℕ → List (List ℕ)) (row : ℕ → List Bool → List ℕ) → T (kind_test n faces quads row)
    → 0 < n → (ids : List ℕ) → length ids ≡ n → Distinct ids
    → Sound (tet_tris (split_by quads row ids)) (outer faces ids) × T (fours (split_by quads row ids))
unfolding bits pick
cell n faces quads row h n> ids len dis =
    let f : ℕ → ℕ = λ p. get_or ids p separator in
    let m = smallest_pos ids in
    let m< : m < n = subst (λ (k : ℕ). m < k) len (smallest_within ids (omega arith)) in
    let inj : (i j : ℕ) → i < n → j < n → f i ≡ f j → i ≡ j = λ i j i< j< e.
    (let i<' : i < length ids = omega arith in
    let j<' : j < length ids = omega arith in
    dis i j i<' j<' (within_default ids i 0 separator i<' ∙ e ∙ within_default ids j separator 0 j<')) in
    let low : (j : ℕ) → j < n → f m ≤ f j = λ j j<.
    (let m<' : m < length ids = omega arith in
    let j<' : j < length ids = omega arith in
    rw (within_default ids m separator 0 m<', within_default ids j separator 0 j<') (smallest_least ids j j<')) in
    let Gs = quads m in
    let bs = map (λ (G : List ℕ). first_diagonal (pick ids G)) Gs in
    let p : List Bool → Bool = λ bs. fours (row m bs) && good n (tet_tris (row m bs)) (outer_by (bit_by Gs bs m) faces) in
    let both = below_at n (λ m. all (face_test n (quads m) m) faces
    && all_bits (length (quads m)) (λ bs. fours (row m bs) && good n (tet_tris (row m bs)) (outer_by (bit_by (quads m) bs m) faces))) h m m< in
    let h1 = and_left (all (face_test n Gs m) faces) (all_bits (length Gs) p) both in
    let h2 = all_bits_at p bs (subst (λ (k : ℕ). T (all_bits k p)) (sym (length_bits (λ (G : List ℕ). first_diagonal (pick ids G)) Gs)) (and_right (all (face_test n Gs m) faces) (all_bits (length Gs) p) both)) in
    let ts = tet_tris (row m bs) in
    let os = outer_by (bit_by Gs bs m) faces in (
      rw (tet-map f (row m bs), outer-map ids faces, outer_ok n f inj m low Gs faces h1) (sound n f inj ts os (and_right (fours (row m bs)) (good n ts os) h2)),
      rw (fours_map f (row m bs)) (and_left (fours (row m bs)) (good n ts os) h2),
    )
