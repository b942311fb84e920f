-- `solids::write_hex_ahead` meets its contract: of the six tetrahedra that it writes, five or six count.
use borrow.Author.Rules.{rules}
use mathlib.Core.Path.{◌≡◌, ◌∙◌, ap}
use mathlib.Core.List.{List, []}
use Prim.Native.Nat.{ℕ, ◌*◌, ◌≤◌, ◌<◌}
use native.Mathlib.Omega.{arith}
use lib.ListN.{length, get_or, take}
use lib.Seq.{length-take-le, take-take}
use Rattle.base.specs.Gather.{pick, undigit}
use Rattle.base.proofs.Picks.{length-undigit}
use Rattle.cuts.specs.Split.{hex_cut, simplexes}
use Rattle.cuts.proofs.Cuts.{hex_least, length-simplexes}
use Rattle.cuts.proofs.Strings.{hex_within}
use Rattle.cuts.proofs.Table.{row_is, place_few}
use Rattle.simplexes.proofs.Ahead.{row_ahead}
use Rattle.simplexes.proofs.solids.write_hex_ahead.Goals as goal

pub offset_bounds-hex_table-row : goal.offset_bounds-hex_table-row
offset_bounds-hex_table-row c =
    let few : c.args.row < 64 = rw c.requires.row_value (place_few c.args.ids.now) in
    record { fits = omega (arith, few) }

pub bounds-hex_table-row : goal.bounds-hex_table-row
bounds-hex_table-row c = rw c.requires.row_value (place_few c.args.ids.now)

pub row_count-requires : goal.row_count-requires
row_count-requires c = rw c.requires.row_value (place_few c.args.ids.now)

pub put-requires : goal.put-requires
put-requires c =
    let few : c.args.row < 64 = rw c.requires.row_value (place_few c.args.ids.now) in
    let size : length c.args.ids.now ≡ 8 = search rules in
    (omega arith, omega (arith, c.requires.in_bounds), rw (c.hex_table.ensures, size) (hex_within c.args.row few))

pub returns : goal.returns
returns c =
    let ids = c.args.ids.now in
    let string = get_or c.hex_table.result.now c.args.row [] in
    let X = pick ids (undigit string) in
    let row = row_is ids string c.args.row c.row_count.result c.requires.row_value
    (ap (λ (t : List (List ℕ)). get_or t c.args.row []) c.hex_table.ensures) c.row_count.ensures.0 in
    let done = simplexes 4 (hex_cut ids) in
    let count : length done ≡ c.row_count.result * 4 = omega (arith, row.counted, length-simplexes 4 (hex_cut ids)) in
    let whole : length (take 24 X) ≡ 24 = length-take-le 24 X (rw (length-undigit ids string) (omega arith)) in
    let least : 20 ≤ length done = omega (arith, length-simplexes 4 (hex_cut ids), hex_least ids) in
    let front : take (length done) (take 24 X) ≡ done =
    rw count (take-take (c.row_count.result * 4) 24 X (omega (arith, c.row_count.ensures.1)) ∙ row.picked) in
    record { value = row.counted; ahead = rw c.put.ensures (row_ahead (take 24 X) done c.args.out.now (omega (arith, whole, c.requires.in_bounds)) front (omega arith)) }
