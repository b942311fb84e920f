-- `wedge::runs_at` meets its contract: the first place found is where the search ends.
use Rattle.std.proofs.Common.{◌≡◌, ◌+◌, true, false, rules, tests, nat_eq, ◌&&◌}
use Rattle.std.proofs.lemmas.Iterator.{first_from_Range}
use Rattle.shapes.specs.Seek.{corner}
use Rattle.shapes.specs.Wedge.{runs_at}
use Rattle.shapes.proofs.Seeks.{seek_found}
use Rattle.shapes.proofs.wedge.runs_at.Goals as goal

pub returns : goal.returns
unfolding runs_at
returns c =
    let a = c.args in
    seek_found (λ j. (nat_eq (corner a.quads.now a.k j) a.v && nat_eq (corner a.quads.now a.k (j + 1)) a.w)) 0 4 _
    (first_from_Range _ _ _ _ (λ j. (nat_eq (corner a.quads.now a.k j) a.v && nat_eq (corner a.quads.now a.k (j + 1)) a.w) ≡ true) (λ j. (nat_eq (corner a.quads.now a.k j) a.v && nat_eq (corner a.quads.now a.k (j + 1)) a.w) ≡ false) c.find.ensures.ran
    (λ x q k. search (rules, tests))
    (λ x q k. search (rules, tests)))
