-- Triangles with a winding, how they are counted, and into which a tetrahedron and a face fall.
use Rattle.std.specs.Prelude.{ℕ, ◌+◌, Bool, true, false, cond, ◌&&◌, ◌||◌, List, [], ◌∷◌, eqb, ℤ}
use Rattle.std.proofs.Math.IntN.{sub_ℕ}
use Rattle.cuts.specs.Smallest.{first_diagonal}

pub data Tri : Type 0 where
  tri : ℕ → ℕ → ℕ → Tri

-- a, b, c are x, y, z in this order
abbrev pub in_order : ℕ → ℕ → ℕ → ℕ → ℕ → ℕ → Bool
in_order a b c x y z = eqb a x && (eqb b y && eqb c z)

-- the same three ids in the same winding: the one is a rotation of the other
abbrev pub same : Tri → Tri → Bool
same (tri a b c) (tri x y z) = in_order a b c x y z || (in_order a b c y z x || in_order a b c z x y)

-- the other winding
abbrev pub flip : Tri → Tri
flip (tri a b c) = tri b a c

-- how often a triangle occurs in its own winding
abbrev pub count : Tri → List Tri → ℕ
count t [] = 0
count t (u ∷ us) = cond (same t u) 1 0 + count t us

-- plus one for each in its winding, minus one for each in the other
abbrev pub total : Tri → List Tri → ℤ
total t us = sub_ℕ (count t us) (count (flip t) us)

-- the triangles of tetrahedra, four ids each: 013, 123, 203, 021
abbrev pub tet_tris : List ℕ → List Tri
tet_tris [] = []
tet_tris (a ∷ []) = []
tet_tris (a ∷ b ∷ []) = []
tet_tris (a ∷ b ∷ c ∷ []) = []
tet_tris (a ∷ b ∷ c ∷ d ∷ rest) = tri a b d ∷ tri b c d ∷ tri c a d ∷ tri a c b ∷ tet_tris rest

-- a face of three corners as it stands; one of four cut along its first diagonal, or along its second
abbrev pub cut_face : Bool → List ℕ → List Tri
cut_face first [] = []
cut_face first (a ∷ []) = []
cut_face first (a ∷ b ∷ []) = []
cut_face first (a ∷ b ∷ c ∷ []) = tri a b c ∷ []
cut_face true (a ∷ b ∷ c ∷ d ∷ []) = tri a b c ∷ tri a c d ∷ []
cut_face false (a ∷ b ∷ c ∷ d ∷ []) = tri a b d ∷ tri b c d ∷ []
cut_face first (a ∷ b ∷ c ∷ d ∷ e ∷ rest) = []

-- cut along the diagonal through its smallest id
abbrev pub face_tris : List ℕ → List Tri
face_tris face = cut_face (first_diagonal face) face
