-- `solids::wedge_row` meets its contract: a row for each place of the smallest, and one further on for the second diagonal.
use borrow.Author.Rules.{rules}
use mathlib.Core.Path.{◌≡◌, ◌∙◌, ap}
use Prim.Native.Nat.{◌+◌, ◌*◌}
use native.Mathlib.Omega.{arith}
use lib.ListN.{length}
use Rattle.cuts.specs.Inner.Strings.{wedge_place}
use Rattle.cuts.specs.Smallest.{first_diagonal}
use Rattle.cuts.proofs.Strings.{quad_within}
use Rattle.cuts.proofs.Table.{wedge-place_is, wedge-place_few}
use Rattle.simplexes.proofs.Laws.{byte_is, four_are}
use Rattle.simplexes.proofs.solids.wedge_row.Goals as goal

pub gather-requires : goal.gather-requires
gather-requires c =
    let six : length c.args.ids.now ≡ 6 = search rules in
    (omega arith, (omega arith, rw (c.wedge_quads.ensures, six) (quad_within c.smallest_of_six-place.result c.smallest_of_six-place.ensures.1)))

pub returns : goal.returns
returns c =
    let ids = c.args.ids.now in
    let place = c.smallest_of_six-place.ensures in
    let four : length c.gather.result ≡ 4 = search rules in
    let first = c.on_first.ensures ∙ ap first_diagonal (four_are c.gather.result four ∙ c.gather.ensures) in
    let is : c.smallest_of_six-place.result * 2 + c.from.result ≡ wedge_place ids =
    wedge-place_is ids c.wedge_quads.result.now c.smallest_of_six-place.result c.on_first.result c.from.result
    c.wedge_quads.ensures place.0 place.1 first (c.from.ensures ∙ byte_is c.on_first.result) in
    (is, rw is (wedge-place_few ids))
