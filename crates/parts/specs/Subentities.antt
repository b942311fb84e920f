-- The sub-entities of an element, and what `subentities` answers (document 01, 'Sub-entities').
use Rattle.std.specs.Prelude.{ℕ, ◌+◌, cond, ◌&&◌, ◌||◌, eqb, leb, ltb, length, Option, Some, None}
use mathlib.Core.List.{List, [], ◌∷◌, flatten}
use Rattle.base.specs.Checks.{element_refusal}
use Rattle.base.specs.Gather.{pick}
use Rattle.base.specs.Outcome.{Outcome, or_else, settle_two}
use Rattle.faces.specs.Faces.{faces}
use Rattle.faces.specs.Edges.{Edge, cycle}
use Rattle.parts.specs.Tables.{table_of, parts_of, kind_at, count_at, corners_of}
use Rattle.parts.specs.declared.subentities.Parts.{Parts}

abbrev pub codim_of : Option ℕ → ℕ
codim_of None = 1
codim_of (Some codim) = codim

-- the last codimension in a kind's table: PGON has vertices and sides, PHED faces; 0 for a kind without a table
unfoldable pub depth : ℕ → ℕ
depth kind = cond (eqb kind 18) 2 (cond (eqb kind 19) 1 (length (table_of kind)))

-- 5 above 3 or, for a kind with a table other than PHED, outside it; 6 where there is no rule; else 0
unfoldable pub codim_refusal : ℕ → ℕ → ℕ
codim_refusal kind codim =
    cond (ltb 3 codim) 5
    (cond (leb 1 codim && leb codim (depth kind)) 0
    (cond (eqb kind 19 || eqb (depth kind) 0) 6 5))

unfoldable pub subentities_refusal : ℕ → ℕ → List ℕ → ℕ
subentities_refusal kind codim ids = or_else (element_refusal kind ids) (codim_refusal kind codim)

-- two pairs of kind and count, 0 where there is none; the ids one after another; where each face of a PHED ends
pub record Entities : Type 0 where
  pub kind : ℕ
  pub count : ℕ
  pub kind2 : ℕ
  pub count2 : ℕ
  pub ids : List ℕ
  pub ends : List ℕ

-- by a table's corners
abbrev pub table_parts : ℕ → ℕ → List ℕ → Entities
table_parts kind codim ids =
    record {
      kind = kind_at 0 (parts_of kind codim);
      count = count_at 0 (parts_of kind codim);
      kind2 = kind_at 1 (parts_of kind codim);
      count2 = count_at 1 (parts_of kind codim);
      ids = pick ids (corners_of (parts_of kind codim));
      ends = [];
    }

abbrev pub alike : ℕ → ℕ → List ℕ → List ℕ → Entities
alike kind count ids ends = record { kind = kind; count = count; kind2 = 0; count2 = 0; ids = ids; ends = ends }

-- the ends of edges, one edge after another
abbrev pub both_ends : List Edge → List ℕ
both_ends [] = []
both_ends (e ∷ es) = e.from ∷ e.to ∷ both_ends es

-- PGON: at 1 a SEG2 from each node to the next, last to first; at 2 the vertices in order
abbrev pub pgon_parts : ℕ → List ℕ → Entities
pgon_parts codim ids =
    cond (eqb codim 1) (alike 2 (length ids) (both_ends (cycle ids)) []) (alike 1 (length ids) ids [])

-- where each of some lists, one after another, ends, counted from n
unfoldable pub ends_from : ℕ → List (List ℕ) → List ℕ
ends_from n [] = []
ends_from n (f ∷ fs) = (n + length f) ∷ ends_from (n + length f) fs

-- PHED: a PGON for each non-empty run between separators
abbrev pub phed_parts : List ℕ → Entities
phed_parts ids = alike 18 (length (faces ids)) (flatten (faces ids)) (ends_from 0 (faces ids))

unfoldable pub entities : ℕ → ℕ → List ℕ → Entities
entities kind codim ids =
    cond (eqb kind 19) (phed_parts ids) (cond (eqb kind 18) (pgon_parts codim ids) (table_parts kind codim ids))

-- a refusal has kinds and counts 0
abbrev pub refused_parts : ℕ → Parts
refused_parts why = record { refusal = why; kind = 0; count = 0; kind2 = 0; count2 = 0 }

abbrev pub given_parts : Entities → Parts
given_parts e = record { refusal = 0; kind = e.kind; count = e.count; kind2 = e.kind2; count2 = e.count2 }

-- what the operation answers, and what the two lent slices then hold
unfoldable pub subentities_outcome : ℕ → Option ℕ → List ℕ → List ℕ × List ℕ → Outcome Parts (List ℕ × List ℕ)
subentities_outcome kind codim ids lent =
    let e = entities kind (codim_of codim) ids in
    settle_two refused_parts (subentities_refusal kind (codim_of codim) ids) (given_parts e) e.ids e.ends lent
