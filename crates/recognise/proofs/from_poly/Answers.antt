-- `from_poly` meets its contract: each return knows what was found.
use Rattle.std.proofs.Common.{arith, rules, ◌≡◌, None, Some, refl, sym}
use Rattle.std.proofs.lemmas.Result.{err_from_is_err_and}
use Rattle.base.specs.declared.kinds.Kind.TheVariants.{Phed}
use Rattle.base.specs.declared.refusals.Refusal.TheVariants.{NoSuchPoly}
use Rattle.base.specs.contracts.kinds.Kind.{the_type}
use denote.Enum.Bare.{same_true}
use Rattle.recognise.proofs.Ends.{unfit, not_found, given_cell, by_faces, no_poly, by_nodes}
use Rattle.recognise.proofs.from_poly.Goals as goal

pub returns-in_err-kind : goal.returns-in_err-kind
returns-in_err-kind c =
    let a = c.args in
    let p = err_from_is_err_and c.from_residual.result c.from_residual.ensures.1 in
    rw (p.1, p.2) (unfit a.kind a.ids.now a.out.now c.in_err-kind.field-0.0 c.in_err-kind.ensures)

pub returns-in-Err : goal.returns-in-Err
returns-in-Err c =
    let a = c.args in
    let k = c.in_ok-kind.ensures in
    let q : c.in_ok-kind.kind ≡ Phed = same_true the_type (search rules) _ _ (sym c.if-eq.ensures) in
    not_found a.kind a.ids.now a.out.now k.0 c.in-Err.refusal
    (by_faces a.kind a.ids.now _ (rw (← k.1, q) refl) (rw c.in-Err.is at c.recognise.ensures))

pub returns-in-Ok : goal.returns-in-Ok
returns-in-Ok c =
    let a = c.args in
    let k = c.in_ok-kind.ensures in
    let q : c.in_ok-kind.kind ≡ Phed = same_true the_type (search rules) _ _ (sym c.if-eq.ensures) in
    given_cell a.kind a.ids.now a.out.now k.0 _ _ _ _
    (by_faces a.kind a.ids.now _ (rw (← k.1, q) refl) (rw c.in-Ok.is at c.recognise.ensures))
    (rw (c.kind.ensures, c.nodes.ensures) at c.give.ensures)

pub returns-in_err-plain : goal.returns-in_err-plain
returns-in_err-plain c =
    let a = c.args in
    let k = c.in_ok-kind.ensures in
    let q : a.kind ≡ 19 → ⊥ = search rules in
    let n : c.plain_kind.result ≡ None = grind arith in
    let e : c.in_err-plain.field-0.0 ≡ NoSuchPoly = grind arith in
    let p = err_from_is_err_and c.from_residual-in_err-plain.result c.from_residual-in_err-plain.ensures.1 in
    rw (p.1, p.2, e)
    (not_found a.kind a.ids.now a.out.now k.0 NoSuchPoly (no_poly a.kind a.ids.now q (sym (rw (n, k.1) at c.plain_kind.ensures))))

pub returns : goal.returns
returns c =
    let a = c.args in
    let k = c.in_ok-kind.ensures in
    let q : a.kind ≡ 19 → ⊥ = search rules in
    let s : c.plain_kind.result ≡ Some c.in_ok-plain.plain = grind arith in
    given_cell a.kind a.ids.now a.out.now k.0 _ _ _ _ (by_nodes a.kind a.ids.now q c.in_ok-plain.plain (rw (s, k.1) at c.plain_kind.ensures))
    c.give-2.ensures
