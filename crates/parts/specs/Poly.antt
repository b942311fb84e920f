-- The poly form of an element, and what `to_poly` answers (document 01, 'To and from poly').
use Rattle.std.specs.Prelude.{ℕ, cond, List, [], ◌∷◌, ◌++◌, map, eqb, length, get_or}
use Rattle.base.specs.Checks.{element_refusal}
use Rattle.base.specs.Gather.{pick, digits}
use Rattle.base.specs.Kinds.{nodes_of}
use Rattle.base.specs.Outcome.{Outcome, or_else, settle}
use Rattle.base.specs.Solids.{is_solid}
use Rattle.base.specs.declared.refusals.Answer.{Answer}
use Rattle.faces.specs.Faces.{joined}
use Rattle.parts.specs.Tables.{Part, parts_of, quad4s}

-- the kind of the poly form, by kind from 0; 0 where there is none
abbrev pub poly_kinds : List ℕ
poly_kinds =
    0 ∷ 1  -- no kind, VERTEX
    ∷ 17 ∷ 0 ∷ 0  -- SEG2, SEG3, SEG4
    ∷ 18 ∷ 18 ∷ 0  -- TRI3, TRI6, TRI7
    ∷ 18 ∷ 0 ∷ 0  -- QUAD4, QUAD8, QUAD9
    ∷ 19 ∷ 0  -- TET4, TET10
    ∷ 19 ∷ 0  -- WEDGE6, WEDGE15
    ∷ 19 ∷ 0  -- HEX8, HEX21
    ∷ 17 ∷ 18 ∷ 19  -- PLINE, PGON, PHED
    ∷ []

unfoldable pub poly_kind : ℕ → ℕ
poly_kind kind = get_or poly_kinds kind 0

-- the faces of a cell: those of codimension 1, for HEX8 in another order
abbrev pub poly_parts : ℕ → List Part
poly_parts kind = cond (eqb kind 15) (quad4s (0321 ∷ 4567 ∷ 0154 ∷ 1265 ∷ 2376 ∷ 3047 ∷ [])) (parts_of kind 1)

-- the corners of each face
abbrev pub rows_of : List Part → List (List ℕ)
rows_of [] = []
rows_of (p ∷ ps) = map (digits (nodes_of p.kind)) p.rows ++ rows_of ps

-- TET4, WEDGE6 and HEX8 by their faces, corner 10, which none of them has, for the separator; others as they are
unfoldable pub poly_ids : ℕ → List ℕ → List ℕ
poly_ids kind ids = cond (is_solid kind) (pick ids (joined 10 (rows_of (poly_parts kind)))) ids

-- what refuses an input: 1 to 4, then 6 where there is no poly form
unfoldable pub poly_refusal : ℕ → List ℕ → ℕ
poly_refusal kind ids = or_else (element_refusal kind ids) (cond (eqb (poly_kind kind) 0) 6 0)

-- what the operation answers, and what the lent slice then holds
unfoldable pub to_poly : ℕ → List ℕ → List ℕ → Outcome Answer (List ℕ)
to_poly kind ids out = settle (poly_refusal kind ids) (poly_kind kind) (length (poly_ids kind ids)) (poly_ids kind ids) out
