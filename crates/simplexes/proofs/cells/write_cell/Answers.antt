-- `cells::write_cell` meets its contract: each arm knows the kind's family, and writes its simplexes.
use native.Mathlib.Omega.{arith}
use mathlib.Core.Path.{◌≡◌, refl}
use mathlib.Core.List.{[], ◌∷◌}
use Prim.Native.Nat.{ℕ, suc}
use lib.Dec.{eqb}
use Rattle.base.specs.Kinds.{nodes_of}
use Rattle.base.specs.Inner.Numbers.{number_of}
use Rattle.base.specs.declared.refusals.Refusal.TheVariants.{NoRule}
use Rattle.cuts.specs.Smallest.{smallest_pos, first_diagonal}
use Rattle.cuts.specs.Rows.{vertex_rows, seg_rows, tri_rows, quad_rows, tet_rows}
use Rattle.cuts.specs.Split.{wedge_cut, hex_cut}
use Rattle.cuts.proofs.Cuts.{two_rows, one_row}
use Rattle.simplexes.proofs.Settled.{refuses_as}
use Rattle.simplexes.proofs.Written.{row_splits, cut_splits, vertex_is, seg_is, tri_is, quad_is, tet_is, wedge_is, hex_is, poly_is}
use Rattle.simplexes.proofs.cells.write_cell.Goals as goal

-- the kinds of simplexes have numbers
some : (n : ℕ) → suc n ≡ 0 → ⊥
some n h = absurd (omega (arith, h))

pub returns-in-Vertex : goal.returns-in-Vertex
unfolding nodes_of
returns-in-Vertex c =
    let ids = c.args.ids.now in
    row_splits (number_of c.args.kind) ids 1 (vertex_rows) (vertex_is c.args.kind ids c.in-Vertex.is) (some 0) (48 ∷ []) refl _ refl _ _ _ c.write_row.ensures

pub returns-in-Seg2 : goal.returns-in-Seg2
unfolding nodes_of
returns-in-Seg2 c =
    let ids = c.args.ids.now in
    row_splits (number_of c.args.kind) ids 2 (seg_rows (eqb (smallest_pos ids) 0)) (seg_is c.args.kind ids c.in-Seg2.is) (some 1) (c.seg_corners.result) c.seg_corners.ensures _ (one_row (eqb (smallest_pos ids) 0)) _ _ _ c.write_row-in-Seg2.ensures

pub returns-in-Tri3 : goal.returns-in-Tri3
unfolding nodes_of
returns-in-Tri3 c =
    let ids = c.args.ids.now in
    row_splits (number_of c.args.kind) ids 5 (tri_rows) (tri_is c.args.kind ids c.in-Tri3.is) (some 4) (48 ∷ 49 ∷ 50 ∷ []) refl _ refl _ _ _ c.write_row-in-Tri3.ensures

pub returns-in-Quad4 : goal.returns-in-Quad4
unfolding nodes_of
returns-in-Quad4 c =
    let ids = c.args.ids.now in
    row_splits (number_of c.args.kind) ids 5 (quad_rows (first_diagonal ids)) (quad_is c.args.kind ids c.in-Quad4.is) (some 4) (c.quad_corners.result) c.quad_corners.ensures _ (two_rows (first_diagonal ids)) _ _ _ c.write_row-in-Quad4.ensures

pub returns-in-Tet4 : goal.returns-in-Tet4
unfolding nodes_of
returns-in-Tet4 c =
    let ids = c.args.ids.now in
    row_splits (number_of c.args.kind) ids 11 (tet_rows) (tet_is c.args.kind ids c.in-Tet4.is) (some 10) (48 ∷ 49 ∷ 50 ∷ 51 ∷ []) refl _ refl _ _ _ c.write_row-in-Tet4.ensures

pub returns-in-Wedge6 : goal.returns-in-Wedge6
returns-in-Wedge6 c =
    let ids = c.args.ids.now in
    cut_splits (number_of c.args.kind) ids 11 (wedge_cut ids) (wedge_is c.args.kind ids c.in-Wedge6.is) (some 10) _ _ _ c.write_wedge.ensures

pub returns-in-Hex8 : goal.returns-in-Hex8
returns-in-Hex8 c =
    let ids = c.args.ids.now in
    cut_splits (number_of c.args.kind) ids 11 (hex_cut ids) (hex_is c.args.kind ids c.in-Hex8.is) (some 10) _ _ _ c.write_hex.ensures

pub returns-in-Pline : goal.returns-in-Pline
returns-in-Pline c =
    let is = poly_is c.args.kind c.args.ids.now c.in-Pline.is in
    refuses_as _ _ _ _ _ NoRule (rw is.gives)
