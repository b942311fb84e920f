-- The ways in which `from_poly` ends.
use mathlib.Core.Path.{◌≡◌, refl, sym, ◌∙◌}
use mathlib.Core.List.{List, []}
use Prim.Native.Nat.{ℕ}
use native.Mathlib.Omega.{arith}
use borrow.Author.Tests.{ne_eqb}
use lib.ListN.{length}
use Rattle.std.specs.Prelude.{Err}
use Rattle.base.specs.Checks.{element_refusal}
use Rattle.base.specs.Inner.Numbers.{answer_of, number_of, refusal_number}
use Rattle.base.specs.Outcome.{Permits, settle}
use Rattle.base.specs.declared.kinds.Kind.{Kind}
use Rattle.base.specs.declared.kinds.Kind.TheVariants.{Vertex, Seg2, Seg3, Seg4, Tri3, Tri6, Tri7, Quad4, Quad8, Quad9, Tet4, Tet10, Wedge6, Wedge15, Hex8, Hex21, Pline, Pgon, Phed}
use Rattle.base.specs.declared.refusals.Answer.{Answer}
use Rattle.base.specs.declared.refusals.Refusal.{Refusal}
use Rattle.base.specs.declared.refusals.Refusal.TheVariants.{UnknownKind, TooManyEntries, WrongNodeCount, StraySeparator, NoSuchCodimension, NoRule, ShortOutput, NoFace, NoSuchPoly, ThreeFaceLengths, NoWedgeFaces, NoQuadAtEdge, NotInSecondTriangle, OpenSurface, NoSuchSurface, NoOppositeFace, NoSideFace, NoPoint, WrongPoints, BadRecord}
use Rattle.base.proofs.Settle.{or_else_first, or_else_next, settle_refuses}
use Rattle.shapes.specs.Cells.{Cell, cell, none}
use Rattle.recognise.specs.FromPoly.{from_poly, plain_kind, recognised}
use Rattle.recognise.specs.Recognise.{from_phed}

-- no refusal and no kind has the number 0
refusal-some : (r : Refusal) → refusal_number r ≡ 0 → ⊥
refusal-some UnknownKind e = omega arith
refusal-some TooManyEntries e = omega arith
refusal-some WrongNodeCount e = omega arith
refusal-some StraySeparator e = omega arith
refusal-some NoSuchCodimension e = omega arith
refusal-some NoRule e = omega arith
refusal-some ShortOutput e = omega arith
refusal-some NoFace e = omega arith
refusal-some NoSuchPoly e = omega arith
refusal-some ThreeFaceLengths e = omega arith
refusal-some NoWedgeFaces e = omega arith
refusal-some NoQuadAtEdge e = omega arith
refusal-some NotInSecondTriangle e = omega arith
refusal-some OpenSurface e = omega arith
refusal-some NoSuchSurface e = omega arith
refusal-some NoOppositeFace e = omega arith
refusal-some NoSideFace e = omega arith
refusal-some NoPoint e = omega arith
refusal-some WrongPoints e = omega arith
refusal-some BadRecord e = omega arith

kind-some : (k : Kind) → number_of k ≡ 0 → ⊥
kind-some Vertex e = omega arith
kind-some Seg2 e = omega arith
kind-some Seg3 e = omega arith
kind-some Seg4 e = omega arith
kind-some Tri3 e = omega arith
kind-some Tri6 e = omega arith
kind-some Tri7 e = omega arith
kind-some Quad4 e = omega arith
kind-some Quad8 e = omega arith
kind-some Quad9 e = omega arith
kind-some Tet4 e = omega arith
kind-some Tet10 e = omega arith
kind-some Wedge6 e = omega arith
kind-some Wedge15 e = omega arith
kind-some Hex8 e = omega arith
kind-some Hex21 e = omega arith
kind-some Pline e = omega arith
kind-some Pgon e = omega arith
kind-some Phed e = omega arith

module _ (kind : ℕ) (ids out : List ℕ) where
  -- refused by the checks
  pub unfit : (r : Refusal) → element_refusal kind ids ≡ refusal_number r
      → Permits (from_poly kind ids out) (answer_of (Err r)) out
  unfolding from_poly
  unfit r e =
      let n : element_refusal kind ids ≡ 0 → ⊥ = λ q. refusal-some r (sym e ∙ q) in
      rw (or_else_first _ _ n, settle_refuses _ _ _ _ _ n, e) (record { answered = refl; left = refl })

  module _ (fit : element_refusal kind ids ≡ 0) where
    -- what is recognised decides
    found : (c : Cell) (a : Answer) (o : List ℕ) → recognised kind ids ≡ c
        → Permits (settle c.why c.kind (length c.nodes) c.nodes out) a o → Permits (from_poly kind ids out) a o
    unfolding from_poly
    found c a o e p = rw (fit, or_else_next _ _ refl, e) p

    pub not_found : (r : Refusal) → recognised kind ids ≡ none (refusal_number r) → Permits (from_poly kind ids out) (answer_of (Err r)) out
    not_found r e =
        found (none (refusal_number r)) _ _ e
        (rw (settle_refuses (refusal_number r) 0 0 [] out (refusal-some r)) (record { answered = refl; left = refl }))

    pub given_cell : (k : ℕ) (nodes : List ℕ) (a : Answer) (o : List ℕ) → recognised kind ids ≡ cell k nodes
        → Permits (settle 0 k (length nodes) nodes out) a o → Permits (from_poly kind ids out) a o
    given_cell k nodes a o e p = found (cell k nodes) a o e p

-- what is recognised, of a PHED and of any other element
module _ (kind : ℕ) (ids : List ℕ) where
  pub by_faces : (c : Cell) → kind ≡ 19 → c ≡ from_phed ids → recognised kind ids ≡ c
  unfolding recognised
  by_faces c e f = rw (e, ← f) refl

  module _ (other : kind ≡ 19 → ⊥) where
    pub no_poly : plain_kind kind (length ids) ≡ 0 → recognised kind ids ≡ none 9
    unfolding recognised
    no_poly e = rw (ne_eqb kind 19 other, e) refl

    pub by_nodes : (k : Kind) → number_of k ≡ plain_kind kind (length ids) → recognised kind ids ≡ cell (number_of k) ids
    unfolding recognised
    by_nodes k e = rw (ne_eqb kind 19 other, ← e, ne_eqb (number_of k) 0 (kind-some k)) refl
