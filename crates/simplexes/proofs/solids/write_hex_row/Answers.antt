-- `solids::write_hex_row` meets its contract: the ids at the corners of the brick's row are those of the two steps.
use borrow.Author.Rules.{rules}
use mathlib.Core.Path.{◌≡◌, ◌∙◌, ap}
use mathlib.Core.List.{List, []}
use Prim.Native.Nat.{ℕ, ◌<◌}
use native.Mathlib.Omega.{arith}
use lib.ListN.{get_or, length}
use Rattle.base.specs.Outcome.{overwrite}
use Rattle.cuts.specs.Split.{hex_cut}
use Rattle.cuts.proofs.Cuts.{length-simplexes}
use Rattle.cuts.proofs.Strings.{hex_within}
use Rattle.cuts.proofs.Table.{RowIs, row_is, place_few}
use Rattle.simplexes.proofs.solids.write_hex_row.Goals as goal

pub row_count-count-requires : goal.row_count-count-requires
row_count-count-requires c = rw c.requires.row_value (place_few c.args.ids.now)

pub offset_bounds-hex_table-row : goal.offset_bounds-hex_table-row
offset_bounds-hex_table-row c =
    let few : c.args.row < 64 = rw c.requires.row_value (place_few c.args.ids.now) in
    omega (arith, few)

pub bounds-hex_table-row : goal.bounds-hex_table-row
bounds-hex_table-row c = rw c.requires.row_value (place_few c.args.ids.now)

pub put-requires : goal.put-requires
put-requires c =
    let few : c.args.row < 64 = rw c.requires.row_value (place_few c.args.ids.now) in
    let eight : length c.args.ids.now ≡ 8 = search rules in
    let row : RowIs c.args.ids.now (get_or c.hex_table.result.now c.args.row []) c.row_count-count.result = row_is _ _ _ _ c.requires.row_value (ap (λ (t : List (List ℕ)). get_or t c.args.row []) c.hex_table.ensures) c.row_count-count.ensures.0 in (
      omega (arith, c.row_count-count.ensures.1),
      omega (arith, row.counted, length-simplexes 4 (hex_cut c.args.ids.now), c.requires.ids_in_bounds),
      rw (c.hex_table.ensures, eight) (hex_within c.args.row few),
    )

pub returns : goal.returns
returns c =
    let row : RowIs c.args.ids.now (get_or c.hex_table.result.now c.args.row []) c.row_count-count.result = row_is _ _ _ _ c.requires.row_value (ap (λ (t : List (List ℕ)). get_or t c.args.row []) c.hex_table.ensures) c.row_count-count.ensures.0 in
    record {
      counted = row.counted;
      written = c.put.ensures ∙ ap (λ (xs : List ℕ). overwrite xs c.args.out.now) row.picked;
    }
