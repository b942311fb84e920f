-- `wedge::wedge` meets its contract: each return knows what was found.
use Rattle.std.proofs.Common.{arith, ◌≡◌, ◌∙◌, None, Some}
use Rattle.std.proofs.lemmas.Result.{err_from_is_err_and}
use Rattle.base.specs.declared.refusals.Refusal.TheVariants.{NoQuadAtEdge, NotInSecondTriangle}
use Rattle.shapes.proofs.Sought.{no_quad, not_in_second, with_second}
use Rattle.shapes.proofs.wedge.wedge.Goals as goal

pub returns-in_err-after : goal.returns-in_err-after
returns-in_err-after c =
    let a = c.args in
    let n : c.after_edge.result ≡ None = grind arith in
    let e : c.in_err-after.field-0.0 ≡ NoQuadAtEdge = grind arith in
    let p = err_from_is_err_and c.from_residual.result c.from_residual.ensures.1 in
    rw (p.1, p.2, e) (no_quad a.tris.now a.quads.now _ _ c.node.ensures c.node-2.ensures (rw n at c.after_edge.ensures))

pub returns-in_err-m : goal.returns-in_err-m
returns-in_err-m c =
    let a = c.args in
    let o : c.after_edge.result ≡ Some c.in_ok-after.after = grind arith in
    let n : c.place_in_second.result ≡ None = grind arith in
    let e : c.in_err-m.field-0.0 ≡ NotInSecondTriangle = grind arith in
    let h = rw o at c.after_edge.ensures in
    let p = err_from_is_err_and c.from_residual-in_err-m.result c.from_residual-in_err-m.ensures.1 in
    rw (p.1, p.2, e)
    (not_in_second a.tris.now a.quads.now _ _ c.node.ensures c.node-2.ensures c.in_ok-after.after h.0 h.1 (rw n at c.place_in_second.ensures))

pub returns : goal.returns
returns c =
    let a = c.args in
    let o : c.after_edge.result ≡ Some c.in_ok-after.after = grind arith in
    let s : c.place_in_second.result ≡ Some c.in_ok-m.m = grind arith in
    let h = rw o at c.after_edge.ensures in
    let k = rw s at c.place_in_second.ensures in
    c.wedge_from.ensures
    ∙ with_second a.tris.now a.quads.now _ _ c.node.ensures c.node-2.ensures c.in_ok-after.after h.0 h.1 c.in_ok-m.m k.0 k.1
