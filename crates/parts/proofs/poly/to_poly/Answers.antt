-- `poly::to_poly` meets its contract: the refusals first, then each cell by its row, the others copied.
use borrow.Author.Rules.{rules}
use mathlib.Core.Bool.{false}
use mathlib.Core.Path.{◌≡◌, refl, sym, ap, ◌∙◌}
use Prim.Native.Nat.{ℕ}
use lib.Dec.{eqb}
use Rattle.std.specs.Prelude.{Option, Some, None, Ok, Err}
use Rattle.std.specs.Option.{ok_or}
use Rattle.std.proofs.lemmas.Result.{err_from_is_err_and}
use Rattle.base.specs.Kinds.{nodes_of}
use Rattle.base.specs.Inner.Numbers.{answer_of, number_of, refusal_number}
use Rattle.base.specs.Outcome.{settle, refused}
use Rattle.base.specs.declared.kinds.Kind.{Kind}
use Rattle.base.specs.declared.refusals.Refusal.{Refusal}
use Rattle.base.specs.declared.refusals.Refusal.TheVariants.{NoRule}
use Rattle.parts.specs.Inner.Fit.{NumberedOrNone}
use Rattle.parts.specs.Poly.{to_poly, poly_refusal, poly_ids}
use Rattle.parts.proofs.Answered.{first_refuses, one_refused, permitted}
use Rattle.parts.proofs.Fitting.{nodes_are}
use Rattle.parts.proofs.poly.to_poly.Goals as goal

-- what `ok_or` made of a kind or none
none_of : (n : ℕ) (o : Option Kind) (e : Refusal) → NumberedOrNone n o → Err e ≡ ok_or o NoRule → (n ≡ 0) × (e ≡ NoRule)
none_of n None e h q = (h, cc)
none_of n (Some k) e h q = absurd (cc)

some_of : (n : ℕ) (o : Option Kind) (k : Kind) → NumberedOrNone n o → Ok k ≡ ok_or o NoRule → (eqb n 0 ≡ false) × (number_of k ≡ n)
some_of n None k h q = absurd (cc)
some_of n (Some j) k h q = let e : k ≡ j = cc in rw e h

pub returns-in_err-kind : goal.returns-in_err-kind
unfolding to_poly poly_refusal settle
returns-in_err-kind c =
    let p = err_from_is_err_and c.from_residual.result c.from_residual.ensures.1 in
    rw (p.1, p.2) (one_refused refused _ _ _ _ _ (first_refuses _ _ _ c.in_err-kind.ensures))

pub returns-in_err-poly-in_default : goal.returns-in_err-poly-in_default
unfolding to_poly poly_refusal settle
returns-in_err-poly-in_default c =
    let p = err_from_is_err_and c.from_residual-in_err-poly-in_default.result c.from_residual-in_err-poly-in_default.ensures.1 in
    let none = none_of _ c.poly_kind.result _ c.poly_kind.ensures c.in_err-poly-in_default.ensures.value in
    let why : poly_refusal c.args.kind c.args.ids.now ≡ refusal_number NoRule =
    rw (c.in_ok-kind.ensures.0, ← c.in_ok-kind.ensures.1, none.0) in
    rw (p.1, p.2, none.1) (one_refused refused _ _ _ _ NoRule why)

pub write_phed-requires : goal.write_phed-requires
unfolding nodes_of
write_phed-requires c =
    rw (nodes_are _ 11 _ c.in_ok-kind.ensures.0 (sym c.in_ok-kind.ensures.1 ∙ ap number_of c.in-Tet4.is) refl)

pub write_phed-requires-in-Wedge6 : goal.write_phed-requires-in-Wedge6
unfolding nodes_of
write_phed-requires-in-Wedge6 c =
    rw (nodes_are _ 13 _ c.in_ok-kind.ensures.0 (sym c.in_ok-kind.ensures.1 ∙ ap number_of c.in-Wedge6.is) refl)

pub write_phed-requires-in-Hex8 : goal.write_phed-requires-in-Hex8
unfolding nodes_of
write_phed-requires-in-Hex8 c =
    rw (nodes_are _ 15 _ c.in_ok-kind.ensures.0 (sym c.in_ok-kind.ensures.1 ∙ ap number_of c.in-Hex8.is) refl)

pub returns-in_ok-poly-in_default : goal.returns-in_ok-poly-in_default
unfolding to_poly poly_refusal poly_ids settle
returns-in_ok-poly-in_default c =
    let some = some_of _ c.poly_kind.result _ c.poly_kind.ensures c.in_ok-poly-in_default.ensures.value in
    let tet : eqb (number_of c.in_ok-kind.kind) 11 ≡ false = search rules in
    let wedge : eqb (number_of c.in_ok-kind.kind) 13 ≡ false = search rules in
    let hex : eqb (number_of c.in_ok-kind.kind) 15 ≡ false = search rules in
    rw (c.in_ok-kind.ensures.0, ← c.in_ok-kind.ensures.1, tet, wedge, hex, some.0, ← some.1) (permitted refused answer_of refl _ _ _ _ _ c.write_copy.ensures)
