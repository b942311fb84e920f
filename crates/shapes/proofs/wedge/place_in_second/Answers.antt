-- `wedge::place_in_second` meets its contract: the first place found is where the search ends.
use Rattle.std.proofs.Common.{◌≡◌, ◌+◌, true, false, rules, tests, nat_eq}
use Rattle.std.proofs.lemmas.Iterator.{first_from_Range}
use Rattle.shapes.specs.Seek.{nth}
use Rattle.shapes.specs.Wedge.{place_in_second}
use Rattle.shapes.proofs.Seeks.{seek_found}
use Rattle.shapes.proofs.wedge.place_in_second.Goals as goal

pub returns : goal.returns
unfolding place_in_second
returns c =
    let a = c.args in
    seek_found (λ j. nat_eq (nth a.tris.now (3 + j)) a.v) 0 3 _
    (first_from_Range _ _ _ _ (λ j. nat_eq (nth a.tris.now (3 + j)) a.v ≡ true) (λ j. nat_eq (nth a.tris.now (3 + j)) a.v ≡ false) c.find.ensures.ran
    (λ x q k. search (rules, tests))
    (λ x q k. search (rules, tests)))
