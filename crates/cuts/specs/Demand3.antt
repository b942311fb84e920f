-- No slit (the order's demand 3): what the tetrahedra of cells have in common with the cells' outer faces.
use Rattle.std.specs.Prelude.{ℕ, ◌≤◌, ◌<◌, ◌≡◌, true, cond, List, [], ◌∷◌, ◌++◌, map, ◌⊎◌, eqb, length, get_or}
use Rattle.base.specs.Kinds.{nodes_of}
use Rattle.base.specs.Gather.{pick, digits}
use Rattle.base.specs.Solids.{is_solid, tet4_tris, wedge6_tris, wedge6_quads, hex8_quads}
use Rattle.cuts.specs.Split.{split}
use Rattle.cuts.specs.Triangle.{Tri, flip, count, total, tet_tris, face_tris}

-- the corners of the faces of the kinds that fill space
abbrev pub tet_faces : List (List ℕ)
tet_faces = map (digits 3) tet4_tris

abbrev pub wedge_faces : List (List ℕ)
wedge_faces = map (digits 3) wedge6_tris ++ map (digits 4) wedge6_quads

abbrev pub hex_faces : List (List ℕ)
hex_faces = map (digits 4) hex8_quads

abbrev pub faces_of : ℕ → List (List ℕ)
faces_of kind = cond (eqb kind 11) tet_faces (cond (eqb kind 13) wedge_faces (cond (eqb kind 15) hex_faces []))

-- no id twice: equal ids stand at one place
abbrev pub Distinct : List ℕ → Type 0
Distinct ids = (i j : ℕ) → i < length ids → j < length ids → get_or ids i 0 ≡ get_or ids j 0 → i ≡ j

pub record Cell : Type 0 where
  pub kind : ℕ
  pub ids : List ℕ

-- a cell that demand 3 speaks of
pub record Proper (c : Cell) : Type 0 where
  pub solid : is_solid c.kind ≡ true
  pub whole : length c.ids ≡ nodes_of c.kind
  pub distinct : Distinct c.ids

-- the triangles of faces, each four-sided one cut along the diagonal through its smallest id
abbrev pub outer : List (List ℕ) → List ℕ → List Tri
outer [] ids = []
outer (face ∷ faces) ids = face_tris (pick ids face) ++ outer faces ids

-- of one cell: the triangles of its tetrahedra, and those of its outer faces
abbrev pub inside : Cell → List Tri
inside c = tet_tris (split c.kind c.ids)

abbrev pub outside : Cell → List Tri
outside c = outer (faces_of c.kind) c.ids

-- of a list of cells: the ids of the tetrahedra, one after another, and the triangles of the outer faces
abbrev pub splits : List Cell → List ℕ
splits [] = []
splits (c ∷ cs) = split c.kind c.ids ++ splits cs

abbrev pub outsides : List Cell → List Tri
outsides [] = []
outsides (c ∷ cs) = outside c ++ outsides cs

abbrev pub AllProper : List Cell → Type 0
AllProper [] = Unit
AllProper (c ∷ cs) = Proper c × AllProper cs

-- of the triangles ts of a cell's tetrahedra and os of its outer faces, t occurs once and is outer, in the winding of
-- its face, or twice, in opposite windings, and is not outer
abbrev pub OnceOrTwice : List Tri → List Tri → Tri → Type 0
OnceOrTwice ts os t =
    ((count t ts ≡ 1) × (count (flip t) ts ≡ 0) × (count t os ≡ 1))
    ⊎ ((count t ts ≡ 1) × (count (flip t) ts ≡ 1) × (count t os ≡ 0) × (count (flip t) os ≡ 0))

-- a quad, and the same quad run the other way, from any of its corners
pub data Opposite : List ℕ → List ℕ → Type 0 where
  reversed : (a b c d : ℕ) → Opposite (a ∷ b ∷ c ∷ d ∷ []) (d ∷ c ∷ b ∷ a ∷ [])
  turned : (q : List ℕ) (a b c d : ℕ) → Opposite q (a ∷ b ∷ c ∷ d ∷ []) → Opposite q (b ∷ c ∷ d ∷ a ∷ [])

-- the ids of a cell's face, by its place
abbrev pub face_of : Cell → ℕ → List ℕ
face_of c k = pick c.ids (get_or (faces_of c.kind) k [])

pub record NoSlit : Type 0 where
  -- for every list of cells and every three ids the total over the tetrahedra is that over the outer faces
  pub sum : (cs : List Cell) → AllProper cs → (t : Tri) → total t (tet_tris (splits cs)) ≡ total t (outsides cs)
  -- within one cell a triangle occurs once, outside, or twice, inside, in opposite windings
  pub within : (c : Cell) → Proper c → (t : Tri) → 1 ≤ count t (inside c) → OnceOrTwice (inside c) (outside c) t
  -- and every triangle of the outer faces occurs
  pub shown : (c : Cell) → Proper c → (t : Tri) → 1 ≤ count t (outside c) → count t (inside c) ≡ 1
  -- two cells that share a quad as opposite cycles cut it into the same two triangles, in opposite windings
  pub shared : (c e : Cell) → Proper c → Proper e → (k m : ℕ) → Opposite (face_of c k) (face_of e m)
      → (t : Tri) → 1 ≤ count t (face_tris (face_of c k)) → (count t (inside c) ≡ 1) × (count (flip t) (inside e) ≡ 1)
