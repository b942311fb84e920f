-- `solids::write_wedge_row` meets its contract: the ids at the corners of the wedge's row are its three tetrahedra.
use borrow.Author.Rules.{rules}
use mathlib.Core.Path.{◌≡◌, ◌∙◌, ap}
use mathlib.Core.List.{List, []}
use Prim.Native.Nat.{ℕ, ◌<◌}
use native.Mathlib.Omega.{arith}
use lib.ListN.{get_or, length}
use Rattle.base.specs.Outcome.{overwrite}
use Rattle.cuts.specs.Split.{wedge_cut}
use Rattle.cuts.proofs.Cuts.{length-simplexes, three_rows}
use Rattle.cuts.proofs.Strings.{wedge_within}
use Rattle.cuts.proofs.Table.{wedge_picked, wedge-place_few}
use Rattle.simplexes.proofs.solids.write_wedge_row.Goals as goal

pub offset_bounds-wedge_table-row : goal.offset_bounds-wedge_table-row
offset_bounds-wedge_table-row c =
    let few : c.args.row < 12 = rw c.requires.row_value (wedge-place_few c.args.ids.now) in
    omega (arith, few)

pub bounds-wedge_table-row : goal.bounds-wedge_table-row
bounds-wedge_table-row c = rw c.requires.row_value (wedge-place_few c.args.ids.now)

pub put-requires : goal.put-requires
put-requires c =
    let few : c.args.row < 12 = rw c.requires.row_value (wedge-place_few c.args.ids.now) in
    let size : length c.args.ids.now ≡ 6 = search rules in
    let ids = c.args.ids.now in (
      search rules,
      omega (arith, three_rows ids, length-simplexes 4 (wedge_cut ids), c.requires.ids_in_bounds),
      rw (c.wedge_table.ensures, size) (wedge_within c.args.row few),
    )

pub returns : goal.returns
returns c =
    c.put.ensures
    ∙ ap (λ (xs : List ℕ). overwrite xs c.args.out.now)
    (wedge_picked c.args.ids.now _ c.args.row c.requires.row_value (ap (λ (t : List (List ℕ)). get_or t c.args.row []) c.wedge_table.ensures))
