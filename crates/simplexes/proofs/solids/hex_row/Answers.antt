-- `solids::hex_row` meets its contract: eight rows for each place of the smallest, in the order of the cases.
use borrow.Author.Rules.{rules}
use mathlib.Core.Path.{◌≡◌, ◌∙◌, ap}
use native.Mathlib.Omega.{arith}
use lib.ListN.{length}
use Rattle.cuts.specs.Split.{hex_case}
use Rattle.cuts.proofs.Strings.{turn_within}
use Rattle.cuts.proofs.Table.{turned, place_is}
use Rattle.simplexes.proofs.solids.hex_row.Goals as goal

pub gather-cell-requires : goal.gather-cell-requires
gather-cell-requires c =
    let eight : length c.args.ids.now ≡ 8 = search rules in
    (omega arith, (omega arith, rw (c.renumberings.ensures, eight) (turn_within c.smallest_of_eight-place.result c.smallest_of_eight-place.ensures.1)))

pub returns : goal.returns
returns c =
    let ids = c.args.ids.now in
    let place = c.smallest_of_eight-place.ensures in
    let cell = c.gather-cell.ensures ∙ turned ids c.renumberings.result.now c.smallest_of_eight-place.result c.renumberings.ensures place.0 place.1 in (
      place_is ids c.smallest_of_eight-place.result c.hex_case.result place.0 place.1 (c.hex_case.ensures.0 ∙ ap hex_case cell),
      omega (arith, c.hex_case.ensures.1, place.1),
    )
