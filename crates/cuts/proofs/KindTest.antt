-- The test of a kind, computed over corner numbers: a kind has n corners, faces, the quads that are searched when the
-- smallest stands at m, and the row of tetrahedra by m and the outcomes of those searches.
use mathlib.Core.Bool.{Bool, true, false, cond, ◌&&◌, ◌||◌, not, beq}
use mathlib.Core.List.{List, [], ◌∷◌, ◌++◌, map}
use Prim.Native.Nat.{ℕ, zero, suc}
use lib.ListN.{get_or, length}
use lib.Dec.{eqb, ltb}
use Rattle.cuts.specs.Smallest.{on_first}
use Rattle.cuts.specs.Triangle.{Tri, tri, same, flip, tet_tris, cut_face}
use Rattle.cuts.proofs.Laws.{below, all, mem, sub}

-- triangles: t is among them in its winding; the first such taken out; they cancel in pairs of opposite windings; none is there twice
abbrev pub has : Tri → List Tri → Bool
has t [] = false
has t (u ∷ us) = same t u || has t us

abbrev pub without : Tri → List Tri → List Tri
without t [] = []
without t (u ∷ us) = cond (same t u) us (u ∷ without t us)

abbrev pub cancels : ℕ → List Tri → Bool
cancels zero [] = true
cancels zero (u ∷ us) = false
cancels (suc n) [] = true
cancels (suc n) (u ∷ us) = has (flip u) us && cancels n (without (flip u) us)

abbrev pub once : List Tri → Bool
once [] = true
once (u ∷ us) = not (has u us) && once us

abbrev pub in_tri : ℕ → Tri → Bool
in_tri n (tri a b c) = ltb a n && (ltb b n && ltb c n)

abbrev pub in_tris : ℕ → List Tri → Bool
in_tris n [] = true
in_tris n (u ∷ us) = in_tri n u && in_tris n us

-- a whole number of tetrahedra
abbrev pub fours : List ℕ → Bool
fours [] = true
fours (a ∷ []) = false
fours (a ∷ b ∷ []) = false
fours (a ∷ b ∷ c ∷ []) = false
fours (a ∷ b ∷ c ∷ d ∷ r) = fours r

-- of the triangles ts of a row and os of the outer faces
abbrev pub good : ℕ → List Tri → List Tri → Bool
good n ts os = cancels 99 (ts ++ map flip os) && ((once ts && in_tris n ts) && (once (os ++ map flip os) && in_tris n (os ++ map flip os)))

abbrev pub all_bits : ℕ → (List Bool → Bool) → Bool
all_bits zero p = p []
all_bits (suc n) p = all_bits n (λ bs. p (true ∷ bs)) && all_bits n (λ bs. p (false ∷ bs))

-- l is the first or the third corner of F; a corner on the diagonal that b says
abbrev pub on_diag : List ℕ → ℕ → Bool
on_diag F l = eqb l (get_or F 0 0) || eqb l (get_or F 2 0)

abbrev pub rep : Bool → List ℕ → ℕ
rep true G = get_or G 0 0
rep false G = get_or G 1 0

-- how the face F is cut, where the searches of the quadrilaterals Gs came out as bs and the smallest corner of the cell is m
abbrev pub bit_by : List (List ℕ) → List Bool → ℕ → List ℕ → Bool
bit_by [] bs m F = on_diag F m
bit_by (G ∷ Gs) [] m F = on_diag F m
bit_by (G ∷ Gs) (b ∷ bs) m F = cond (sub F G) (on_diag F (rep b G)) (bit_by Gs bs m F)

abbrev pub outer_by : (List ℕ → Bool) → List (List ℕ) → List Tri
outer_by g [] = []
outer_by g (F ∷ Fs) = cut_face (g F) F ++ outer_by g Fs

-- F has four different corners; G is F, turned
abbrev pub proper : List ℕ → Bool
proper F = below 4 (λ k. beq (on_first k) (on_diag F (get_or F k 0)))

abbrev pub turned : List ℕ → List ℕ → Bool
turned F G = eqb (length G) 4 && (sub G F && below 4 (λ k. beq (on_diag F (get_or G k 0)) (on_diag F (rep (on_first k) G))))

-- F is one of the searched, turned, or else has the smallest corner
abbrev pub covered : List (List ℕ) → ℕ → List ℕ → Bool
covered [] m F = mem m F
covered (G ∷ Gs) m F = cond (sub F G) (turned F G) (covered Gs m F)

abbrev pub face_test : ℕ → List (List ℕ) → ℕ → List ℕ → Bool
face_test n Gs m F = eqb (length F) 3 || (eqb (length F) 4 && (all (λ x. ltb x n) F && (proper F && covered Gs m F)))

abbrev pub kind_test : ℕ → List (List ℕ) → (ℕ → List (List ℕ)) → (ℕ → List Bool → List ℕ) → Bool
kind_test n faces quads row =
    below n (λ m. all (face_test n (quads m) m) faces
    && all_bits (length (quads m)) (λ bs. fours (row m bs) && good n (tet_tris (row m bs)) (outer_by (bit_by (quads m) bs m) faces)))
