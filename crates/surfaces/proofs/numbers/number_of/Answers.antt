-- `numbers::number_of` meets its contract: where the search ends is the first place.
use Rattle.std.proofs.Common.{◌≡◌, ◌∙◌, sym, rules, tests}
use Rattle.std.proofs.lemmas.Iterator.{IsFirst-from_position, YieldsList-from_slice}
use Rattle.surfaces.proofs.Numbering.{first_place}
use Rattle.surfaces.proofs.numbers.number_of.Goals as goal

pub returns : goal.returns
returns c =
    let a = c.args in
    c.unwrap_or.ensures
    ∙ sym (first_place a.nodes.now a.x c.position.result
    (IsFirst-from_position _ _ _ (λ y. y ≡ a.x) (λ y. y ≡ a.x → ⊥) c.position.ensures.ran (YieldsList-from_slice a.nodes.now cc)
    (λ x q k. search (rules, tests))
    (λ x q k. search (rules, tests))))
