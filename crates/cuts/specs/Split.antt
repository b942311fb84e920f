-- How one cell is cut into simplexes (document 01, 'To simplexes').
use Rattle.std.specs.Prelude.{ℕ, cond, List, [], eqb, leb, length}
use Rattle.base.specs.Kinds.{nodes_of}
use Rattle.base.specs.Checks.{element_refusal}
use Rattle.base.specs.Gather.{pick, digits, corners}
use Rattle.base.specs.Outcome.{Outcome, or_else, settle}
use Rattle.base.specs.declared.refusals.Answer.{Answer}
use Rattle.cuts.specs.Smallest.{smallest_pos, first_diagonal}
use Rattle.cuts.specs.Rows.{vertex_rows, seg_rows, tri_rows, quad_rows, tet_rows, branch, wedge_quads, wedge_first, wedge_second, renumberings, hex_rows, case_of}

-- the kind of the simplexes: VERTEX, SEG2, TRI3 or TET4; 0 where there is no rule
unfoldable pub split_kind : ℕ → ℕ
split_kind kind =
    cond (leb 17 kind) 0
    (cond (leb 11 kind) 11
    (cond (leb 5 kind) 5
    (cond (leb 2 kind) 2
    (cond (leb 1 kind) 1
    0))))

-- how a cell is cut: its ids in the order in which the rows count corners, and the rows
pub record Cut : Type 0 where
  pub ids : List ℕ
  pub rows : List ℕ

abbrev pub by : List ℕ → List ℕ → Cut
by ids rows = record { ids = ids; rows = rows }

-- the ids of a quad of corners
abbrev pub quad : List ℕ → ℕ → List ℕ
quad ids row = pick ids (digits 4 row)

abbrev pub wedge_cut : List ℕ → Cut
wedge_cut ids =
    let smallest = smallest_pos ids in
    by ids (branch (cond (first_diagonal (quad ids (branch wedge_quads 0 smallest))) wedge_first wedge_second) [] smallest)

-- the brick's ids, renumbered by the place of the smallest
abbrev pub renumbered : List ℕ → List ℕ
renumbered ids = pick ids (digits 8 (branch renumberings 0 (smallest_pos ids)))

-- the case of a brick that is renumbered
abbrev pub hex_case : List ℕ → ℕ
hex_case ids = case_of (first_diagonal (quad ids 4567)) (first_diagonal (quad ids 1265)) (first_diagonal (quad ids 2376))

abbrev pub hex_cut : List ℕ → Cut
hex_cut ids = by (renumbered ids) (branch hex_rows [] (hex_case (renumbered ids)))

-- by family; the search runs over every node, mid-side nodes too
unfoldable pub cut : ℕ → List ℕ → Cut
cut kind ids =
    cond (leb 17 kind) (by ids [])
    (cond (leb 15 kind) (hex_cut ids)
    (cond (leb 13 kind) (wedge_cut ids)
    (cond (leb 11 kind) (by ids tet_rows)
    (cond (leb 8 kind) (by ids (quad_rows (first_diagonal ids)))
    (cond (leb 5 kind) (by ids tri_rows)
    (cond (leb 2 kind) (by ids (seg_rows (eqb (smallest_pos ids) 0)))
    (cond (leb 1 kind) (by ids vertex_rows)
    (by ids []))))))))

-- the ids of a cut's simplexes of n nodes, one simplex after another
unfoldable pub simplexes : ℕ → Cut → List ℕ
simplexes n c = pick c.ids (corners n c.rows)

unfoldable pub split : ℕ → List ℕ → List ℕ
split kind ids = simplexes (nodes_of (split_kind kind)) (cut kind ids)

-- how many simplexes there are
unfoldable pub split_count : ℕ → List ℕ → ℕ
split_count kind ids = length (cut kind ids).rows

-- 1 to 4, and 6 where there is no rule
unfoldable pub split_refusal : ℕ → List ℕ → ℕ
split_refusal kind ids = or_else (element_refusal kind ids) (cond (eqb (split_kind kind) 0) 6 0)

-- what `to_simplexes` answers, and what the lent output then holds
unfoldable pub to_simplexes : ℕ → List ℕ → List ℕ → Outcome Answer (List ℕ)
to_simplexes kind ids out = settle (split_refusal kind ids) (split_kind kind) (split_count kind ids) (split kind ids) out
