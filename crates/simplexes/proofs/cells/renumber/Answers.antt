-- `cells::renumber` meets its contract: a brick of eight ids by the search of eight, any other as it comes.
use mathlib.Core.Path.{◌≡◌, ◌∙◌, ap}
use native.Mathlib.Omega.{arith}
use lib.ListN.{length}
use Rattle.cuts.specs.Split.{renumbered}
use Rattle.cuts.proofs.Strings.{turn_within}
use Rattle.cuts.proofs.Table.{turned}
use Rattle.simplexes.proofs.cells.renumber.Goals as goal

pub gather-requires : goal.gather-requires
gather-requires c =
    let whole = c.in-Some.ensures.cases in
    let eight : length c.in-Some.ids.now ≡ 8 = ap length whole.same ∙ whole.long in
    (omega arith, (omega arith, rw (c.renumberings.ensures, eight) (turn_within c.smallest_of_eight-place.result c.smallest_of_eight-place.ensures.1)))

pub returns-in-Some : goal.returns-in-Some
returns-in-Some c =
    let place = c.smallest_of_eight-place.ensures in
    c.gather.ensures
    ∙ turned c.in-Some.ids.now c.renumberings.result.now c.smallest_of_eight-place.result c.renumberings.ensures place.0 place.1
    ∙ ap renumbered c.in-Some.ensures.cases.same
