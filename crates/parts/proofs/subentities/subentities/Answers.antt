-- `subentities::subentities` meets its contract: the refusals first, then the table of each codimension that there is.
use borrow.Author.Rules.{rules}
use mathlib.Core.Bool.{false}
use mathlib.Core.Path.{◌≡◌, refl, sym, ◌∙◌}
use lib.Dec.{eqb}
use Prim.Native.Nat.{ℕ}
use native.Mathlib.Omega.{arith}
use Rattle.std.specs.Option.{unwrap_or}
use Rattle.std.specs.Prelude.{Option, Some, None}
use Rattle.std.proofs.lemmas.Result.{err_from_is_err_and}
use Rattle.base.specs.Inner.Numbers.{number_of}
use Rattle.parts.specs.Subentities.{codim_of, subentities_outcome, subentities_refusal, codim_refusal, depth, entities, refused_parts}
use Rattle.parts.proofs.Answered.{first_refuses, two_refused}
use Rattle.parts.proofs.Fitting.{has_nodes}
use Rattle.parts.proofs.Codims.{allowed, alone, no_phed}
use Rattle.parts.proofs.subentities.subentities.Goals as goal

unwrapped : (codim : Option ℕ) → codim_of codim ≡ unwrap_or codim 1
unwrapped None = refl
unwrapped (Some codim) = refl

pub returns-in_err-kind : goal.returns-in_err-kind
unfolding subentities_outcome subentities_refusal
returns-in_err-kind c =
    let p = err_from_is_err_and c.from_residual.result c.from_residual.ensures.1 in
    rw (p.1, p.2) (two_refused refused_parts _ _ _ _ _ _ _ (first_refuses _ _ _ c.in_err-kind.ensures))

pub returns-in-Phed : goal.returns-in-Phed
unfolding subentities_outcome subentities_refusal codim_refusal depth entities
returns-in-Phed c =
    let codim : codim_of c.args.codim ≡ 1 = unwrapped c.args.codim ∙ sym c.unwrap_or-codim.ensures ∙ c.in-1.is in
    rw (c.in_ok-kind.ensures.0, ← c.in_ok-kind.ensures.1, codim, c.in-Phed.is) c.phed_parts.ensures

pub first_parts-requires : goal.first_parts-requires
first_parts-requires c =
    record {
      nodes = has_nodes _ _ _ c.in_ok-kind.ensures.0 c.in_ok-kind.ensures.1;
      other = search rules;
    }

pub returns-in_default-kind : goal.returns-in_default-kind
unfolding subentities_outcome subentities_refusal
returns-in_default-kind c =
    let a = c.args in
    let other : eqb (number_of c.in_ok-kind.kind) 19 ≡ false = search rules in
    let codim : codim_of a.codim ≡ 1 = unwrapped a.codim ∙ sym c.unwrap_or-codim.ensures ∙ c.in-1.is in
    rw (c.in_ok-kind.ensures.0, ← c.in_ok-kind.ensures.1, codim)
    (alone (number_of c.in_ok-kind.kind) 1 a.ids.now (λ _. other) a.out.now a.ends.now _ _ c.first_parts.ensures)

pub second_parts-requires : goal.second_parts-requires
second_parts-requires c = has_nodes _ _ _ c.in_ok-kind.ensures.0 c.in_ok-kind.ensures.1

pub returns-in-2 : goal.returns-in-2
unfolding subentities_outcome subentities_refusal
returns-in-2 c =
    let a = c.args in
    let kind = number_of c.in_ok-kind.kind in
    let codim : codim_of a.codim ≡ 2 = unwrapped a.codim ∙ sym c.unwrap_or-codim.ensures ∙ c.in-2.is in
    rw (c.in_ok-kind.ensures.0, ← c.in_ok-kind.ensures.1, codim)
    (alone kind 2 a.ids.now (no_phed kind 2 (λ one. omega arith)) a.out.now a.ends.now _ _ c.second_parts.ensures)

pub third_parts-requires : goal.third_parts-requires
third_parts-requires c = has_nodes _ _ _ c.in_ok-kind.ensures.0 c.in_ok-kind.ensures.1

pub returns-in-3 : goal.returns-in-3
unfolding subentities_outcome subentities_refusal
returns-in-3 c =
    let a = c.args in
    let kind = number_of c.in_ok-kind.kind in
    let codim : codim_of a.codim ≡ 3 = unwrapped a.codim ∙ sym c.unwrap_or-codim.ensures ∙ c.in-3.is in
    rw (c.in_ok-kind.ensures.0, ← c.in_ok-kind.ensures.1, codim)
    (alone kind 3 a.ids.now (no_phed kind 3 (λ one. omega arith)) a.out.now a.ends.now _ _ c.third_parts.ensures)

pub lacking-requires : goal.lacking-requires
lacking-requires c = λ none. omega (arith, allowed _ c.unwrap_or-codim.result none)

pub returns-in_default : goal.returns-in_default
unfolding subentities_outcome subentities_refusal
returns-in_default c =
    let codim : codim_of c.args.codim ≡ c.unwrap_or-codim.result = unwrapped c.args.codim ∙ sym c.unwrap_or-codim.ensures in
    rw (c.in_ok-kind.ensures.0, ← c.in_ok-kind.ensures.1, codim) (two_refused refused_parts _ _ _ _ _ _ _ c.lacking.ensures)
