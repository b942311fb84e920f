-- The sub-entities of each kind by their corners (document 01, 'Sub-entities').
use Rattle.std.specs.Prelude.{ℕ, List, [], ◌∷◌, ◌++◌, map, length, get_or}
use Rattle.base.specs.Kinds.{nodes_of}
use Rattle.base.specs.Gather.{corners}
use Rattle.base.specs.Solids.{tet4_tris, wedge6_tris, wedge6_quads, hex8_quads}

-- some sub-entities of one kind: the kind, and the corners of each as digits
pub record Part : Type 0 where
  pub kind : ℕ
  pub rows : List ℕ

abbrev part : ℕ → List ℕ → Part
part kind rows = record { kind = kind; rows = rows }

abbrev vertices : List ℕ → List Part
vertices rows = part 1 rows ∷ []

abbrev seg2s : List ℕ → List Part
seg2s rows = part 2 rows ∷ []

abbrev seg3s : List ℕ → List Part
seg3s rows = part 3 rows ∷ []

abbrev tri3s : List ℕ → List Part
tri3s rows = part 5 rows ∷ []

abbrev pub quad4s : List ℕ → List Part
quad4s rows = part 8 rows ∷ []

-- by codimension, from 1
abbrev seg : List (List Part)
seg = vertices (0 ∷ 1 ∷ []) ∷ []

abbrev tri3 : List (List Part)
tri3 = seg2s (01 ∷ 12 ∷ 20 ∷ []) ∷ vertices (0 ∷ 1 ∷ 2 ∷ []) ∷ []

abbrev tri6 : List (List Part)
tri6 = seg3s (013 ∷ 124 ∷ 205 ∷ []) ∷ vertices (0 ∷ 1 ∷ 2 ∷ []) ∷ []

abbrev quad4 : List (List Part)
quad4 = seg2s (01 ∷ 12 ∷ 23 ∷ 30 ∷ []) ∷ vertices (0 ∷ 1 ∷ 2 ∷ 3 ∷ []) ∷ []

abbrev tet4 : List (List Part)
tet4 =
    tri3s tet4_tris
    ∷ seg2s (01 ∷ 02 ∷ 03 ∷ 12 ∷ 13 ∷ 23 ∷ [])
    ∷ vertices (0 ∷ 1 ∷ 2 ∷ 3 ∷ [])
    ∷ []

abbrev wedge6 : List (List Part)
wedge6 =
    (tri3s wedge6_tris ++ quad4s wedge6_quads)
    ∷ seg2s (01 ∷ 02 ∷ 03 ∷ 12 ∷ 14 ∷ 25 ∷ 34 ∷ 35 ∷ 45 ∷ [])
    ∷ vertices (0 ∷ 1 ∷ 2 ∷ 3 ∷ 4 ∷ 5 ∷ [])
    ∷ []

abbrev hex8 : List (List Part)
hex8 =
    quad4s hex8_quads
    ∷ seg2s (01 ∷ 03 ∷ 04 ∷ 12 ∷ 15 ∷ 23 ∷ 26 ∷ 37 ∷ 45 ∷ 47 ∷ 56 ∷ 67 ∷ [])
    ∷ vertices (0 ∷ 1 ∷ 2 ∷ 3 ∷ 4 ∷ 5 ∷ 6 ∷ 7 ∷ [])
    ∷ []

-- by kind, from 0; an empty table is none
abbrev pub tables : List (List (List Part))
tables =
    [] ∷ []  -- no kind, VERTEX
    ∷ seg ∷ seg ∷ seg  -- SEG2, SEG3, SEG4
    ∷ tri3 ∷ tri6 ∷ tri6  -- TRI3, TRI6, TRI7
    ∷ quad4 ∷ [] ∷ []  -- QUAD4, QUAD8, QUAD9
    ∷ tet4 ∷ []  -- TET4, TET10
    ∷ wedge6 ∷ []  -- WEDGE6, WEDGE15
    ∷ hex8  -- HEX8
    ∷ []

unfoldable pub table_of : ℕ → List (List Part)
table_of kind = get_or tables kind []

-- the sub-entities of a kind at a codimension from 1 on
abbrev pub parts_of : ℕ → ℕ → List Part
parts_of kind codim = get_or ([] ∷ table_of kind) codim []

-- the kind and the count of pair i; 0 where there is none
abbrev pub kind_at : ℕ → List Part → ℕ
kind_at i parts = get_or (map (λ (p : Part). p.kind) parts) i 0

abbrev pub count_at : ℕ → List Part → ℕ
count_at i parts = get_or (map (λ (p : Part). length p.rows) parts) i 0

-- their corners, one sub-entity after another
abbrev pub corners_of : List Part → List ℕ
corners_of [] = []
corners_of (p ∷ ps) = corners (nodes_of p.kind) p.rows ++ corners_of ps
