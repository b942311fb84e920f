-- `brick::opposite` meets its contract: the first face found is where the search ends.
use Rattle.std.proofs.Common.{◌≡◌, true, false, rules, tests, not}
use Rattle.std.proofs.lemmas.Iterator.{first_from_Range}
use Rattle.shapes.specs.Brick.{touches, opposite}
use Rattle.shapes.proofs.Seeks.{seek_found}
use Rattle.shapes.proofs.brick.opposite.Goals as goal

pub returns : goal.returns
unfolding opposite
returns c =
    let a = c.args in
    seek_found (λ j. not (touches a.quads.now j)) 1 5 _
    (first_from_Range _ _ _ _ (λ j. not (touches a.quads.now j) ≡ true) (λ j. not (touches a.quads.now j) ≡ false) c.find.ensures.ran
    (λ x q k. search (rules, tests))
    (λ x q k. search (rules, tests)))
