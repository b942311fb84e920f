-- `from_poly`: a poly kind as the fixed kind that it is (document 01, 'To and from poly').
use Rattle.std.specs.Prelude.{ℕ, List, cond, eqb, length}
use Rattle.base.specs.Checks.{element_refusal}
use Rattle.base.specs.Outcome.{Outcome, or_else, settle}
use Rattle.base.specs.declared.refusals.Answer.{Answer}
use Rattle.shapes.specs.Cells.{Cell, cell, none}
use Rattle.recognise.specs.Recognise.{from_phed}

-- the kind of an element that is no PHED and has n nodes: PLINE 17 of 2 is SEG2, PGON 18 of 3 or 4 is TRI3 or
-- QUAD4, and else they are none, 0; the kinds 1 to 16 stay
unfoldable pub plain_kind : ℕ → ℕ → ℕ
plain_kind kind n =
    cond (eqb kind 17) (cond (eqb n 2) 2 0)
    (cond (eqb kind 18) (cond (eqb n 3) 5 (cond (eqb n 4) 8 0))
    kind)

-- what an element is recognised as: a PHED by its faces, any other keeps its nodes
unfoldable pub recognised : ℕ → List ℕ → Cell
recognised kind ids =
    cond (eqb kind 19) (from_phed ids)
    (cond (eqb (plain_kind kind (length ids)) 0) (none 9)
    (cell (plain_kind kind (length ids)) ids))

-- a cell is written, and its nodes counted
abbrev pub settled : ℕ → Cell → List ℕ → Outcome Answer (List ℕ)
settled why c out = settle (or_else why c.why) c.kind (length c.nodes) c.nodes out

unfoldable pub from_poly : ℕ → List ℕ → List ℕ → Outcome Answer (List ℕ)
from_poly kind ids out = settled (element_refusal kind ids) (recognised kind ids) out
