-- `brick::home` meets its contract: the first edge found is where the search ends.
use Rattle.std.proofs.Common.{◌≡◌, ◌+◌, true, false, rules, tests, nat_eq, ◌||◌}
use Rattle.std.proofs.lemmas.Iterator.{first_from_Range}
use Rattle.shapes.specs.Brick.{home}
use Rattle.shapes.specs.Seek.{corner}
use Rattle.shapes.proofs.Seeks.{seek_found}
use Rattle.shapes.proofs.brick.home.Goals as goal

pub returns : goal.returns
unfolding home
returns c =
    let a = c.args in
    seek_found (λ j. (nat_eq (corner a.quads.now 0 j) a.x || nat_eq (corner a.quads.now 0 (j + 1)) a.x)) 0 4 _
    (first_from_Range _ _ _ _ (λ j. (nat_eq (corner a.quads.now 0 j) a.x || nat_eq (corner a.quads.now 0 (j + 1)) a.x) ≡ true) (λ j. (nat_eq (corner a.quads.now 0 j) a.x || nat_eq (corner a.quads.now 0 (j + 1)) a.x) ≡ false) c.find.ensures.ran
    (λ x q k. search (rules, tests))
    (λ x q k. search (rules, tests)))
