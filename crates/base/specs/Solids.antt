-- The kinds that fill space, and their faces by corners in the order and winding of document 01, 'Sub-entities'.
use Rattle.std.specs.Prelude.{ℕ, Bool, ◌||◌, List, [], ◌∷◌, eqb}

-- TET4, WEDGE6 and HEX8
abbrev pub is_solid : ℕ → Bool
is_solid kind = eqb kind 11 || (eqb kind 13 || eqb kind 15)

-- TET4: triangles
abbrev pub tet4_tris : List ℕ
tet4_tris = 013 ∷ 123 ∷ 203 ∷ 021 ∷ []

-- WEDGE6: triangles, then quads
abbrev pub wedge6_tris : List ℕ
wedge6_tris = 021 ∷ 345 ∷ []

abbrev pub wedge6_quads : List ℕ
wedge6_quads = 0143 ∷ 1254 ∷ 2035 ∷ []

-- HEX8: quads
abbrev pub hex8_quads : List ℕ
hex8_quads = 0321 ∷ 4567 ∷ 0154 ∷ 2376 ∷ 1265 ∷ 3047 ∷ []
