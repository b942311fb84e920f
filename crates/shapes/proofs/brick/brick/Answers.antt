-- `brick::brick` meets its contract: each return knows what was found.
use Rattle.std.proofs.Common.{arith, ◌≡◌, ◌∙◌, None, Some}
use Rattle.std.proofs.lemmas.Result.{err_from_is_err_and}
use Rattle.base.specs.declared.refusals.Refusal.TheVariants.{NoOppositeFace, NoSideFace}
use Rattle.shapes.specs.Inner.Made.{sides_of}
use Rattle.shapes.proofs.Sought.{no_opposite, no_side, with_sides}
use Rattle.shapes.proofs.brick.brick.Goals as goal

pub returns-in_err-o : goal.returns-in_err-o
returns-in_err-o c =
    let n : c.opposite.result ≡ None = grind arith in
    let e : c.in_err-o.field-0.0 ≡ NoOppositeFace = grind arith in
    let p = err_from_is_err_and c.from_residual.result c.from_residual.ensures.1 in
    rw (p.1, p.2, e) (no_opposite c.args.quads.now (rw n at c.opposite.ensures))

pub returns-in_err-sides : goal.returns-in_err-sides
returns-in_err-sides c =
    let o : c.opposite.result ≡ Some c.in_ok-o.o = grind arith in
    let n : c.sides_at_edges.result ≡ None = grind arith in
    let e : c.in_err-sides.field-0.0 ≡ NoSideFace = grind arith in
    let h = rw o at c.opposite.ensures in
    let p = err_from_is_err_and c.from_residual-in_err-sides.result c.from_residual-in_err-sides.ensures.1 in
    rw (p.1, p.2, e) (no_side c.args.quads.now c.in_ok-o.o h.0 h.1 (rw n at c.sides_at_edges.ensures))

pub returns : goal.returns
returns c =
    let o : c.opposite.result ≡ Some c.in_ok-o.o = grind arith in
    let s : c.sides_at_edges.result ≡ Some c.in_ok-sides.sides = grind arith in
    let h = rw o at c.opposite.ensures in
    let k = rw s at c.sides_at_edges.ensures in
    c.brick_from.ensures ∙ with_sides c.args.quads.now c.in_ok-o.o h.0 h.1 (sides_of c.in_ok-sides.sides) k.0 k.1
