-- `brick::side` meets its contract: the first face found is where the search ends.
use Rattle.std.proofs.Common.{◌≡◌, ◌+◌, true, false, rules, tests, not, nat_eq, ◌&&◌}
use Rattle.std.proofs.lemmas.Iterator.{first_from_Range}
use Rattle.shapes.specs.Brick.{has_edge, side}
use Rattle.shapes.specs.Seek.{corner}
use Rattle.shapes.proofs.Seeks.{seek_found}
use Rattle.shapes.proofs.brick.side.Goals as goal

pub returns : goal.returns
unfolding side
returns c =
    let a = c.args in
    seek_found (λ j. (not (nat_eq j a.o) && has_edge a.quads.now j (corner a.quads.now 0 a.j) (corner a.quads.now 0 (a.j + 1)))) 1 5 _
    (first_from_Range _ _ _ _ (λ j. (not (nat_eq j a.o) && has_edge a.quads.now j (corner a.quads.now 0 a.j) (corner a.quads.now 0 (a.j + 1))) ≡ true) (λ j. (not (nat_eq j a.o) && has_edge a.quads.now j (corner a.quads.now 0 a.j) (corner a.quads.now 0 (a.j + 1))) ≡ false) c.find.ensures.ran
    (λ x q k. search (rules, tests))
    (λ x q k. search (rules, tests)))
