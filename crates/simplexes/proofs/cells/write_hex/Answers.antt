-- `cells::write_hex` meets its contract: the rows of the brick's case are put from the renumbered ids.
use borrow.Author.Rules.{rules}
use mathlib.Core.Path.{◌≡◌, refl, ◌∙◌, ap}
use mathlib.Core.List.{List, []}
use Prim.Native.Nat.{ℕ, ◌*◌, ◌<◌, ◌≤◌}
use native.Mathlib.Omega.{arith}
use lib.ListN.{get_or, length, take}
use Rattle.base.specs.Gather.{pick, corners, undigit}
use Rattle.base.specs.Kinds.{nodes_of}
use Rattle.base.specs.Outcome.{overwrite}
use Rattle.base.specs.declared.kinds.Kind.TheVariants.{Tet4}
use Rattle.cuts.specs.Rows.{branch, hex_rows}
use Rattle.cuts.specs.Split.{hex_case, hex_cut, renumbered, simplexes}
use Rattle.cuts.proofs.Cuts.{hex_row_lem, length-simplexes, picked}
use Rattle.cuts.proofs.Strings.{hex_within}
use Rattle.simplexes.proofs.Settled.{gives_as, short_as}
use Rattle.simplexes.proofs.cells.write_hex.Goals as goal

-- the number of the case is that of the cut
counted : (ids cell : List ℕ) (case count : ℕ) → cell ≡ renumbered ids → case ≡ hex_case cell
    → count ≡ length (branch hex_rows [] case) → count ≡ length (hex_cut ids).rows
counted ids cell case count e f k = k ∙ ap (λ (n : ℕ). length (branch hex_rows [] n)) (f ∙ ap hex_case e)

pub returns-then-out-count : goal.returns-then-out-count
unfolding nodes_of
returns-then-out-count c =
    let ids = c.args.ids.now in
    let n = counted ids c.renumber-cell.result c.hex_case-case.result c.case_count-count.result c.renumber-cell.ensures c.hex_case-case.ensures.0 c.case_count-count.ensures.0 in
    let h : length c.args.out.now < length (simplexes 4 (hex_cut ids)) = omega (arith, length-simplexes 4 (hex_cut ids)) in
    short_as _ _ _ _ _ refl h

pub put-requires : goal.put-requires
put-requires c =
    let rows = get_or c.hex_table.result.now c.hex_case-case.result [] in
    let few : c.hex_case-case.result < 64 = omega (arith, c.hex_case-case.ensures.1) in
    let long : length rows ≡ 24 = search rules in
    let eight : length c.renumber-cell.result ≡ 8 = search rules in (
      omega (arith, c.case_count-count.ensures.1),
      omega arith,
      rw (eight, c.hex_table.ensures) (hex_within c.hex_case-case.result few),
    )

pub returns : goal.returns
unfolding nodes_of
returns c =
    let ids = c.args.ids.now in
    let n = c.case_count-count.result in
    let rows = get_or c.hex_table.result.now c.hex_case-case.result [] in
    let out = c.args.out.now in
    let row : (take (c.case_count-count.result * 4) (undigit (get_or c.hex_table.result.now c.hex_case-case.result [])) ≡ corners 4 (hex_cut c.args.ids.now).rows)
    × (c.case_count-count.result ≡ length (hex_cut c.args.ids.now).rows) = hex_row_lem c.args.ids.now rows c.hex_case-case.result n
    (c.hex_case-case.ensures.0 ∙ ap hex_case c.renumber-cell.ensures)
    c.hex_case-case.ensures.1
    c.case_count-count.ensures.0
    (ap (λ (t : List (List ℕ)). get_or t c.hex_case-case.result []) c.hex_table.ensures) in
    let h : length (simplexes 4 (hex_cut ids)) ≤ length out = omega (arith, row.1, length-simplexes 4 (hex_cut ids)) in
    gives_as _ _ _ _ _ (record { kind = Tet4; count = n }) _ refl h refl row.1
    (c.put.ensures
    ∙ ap (λ (cell : List ℕ). overwrite (take (n * 4) (pick cell (undigit rows))) out) c.renumber-cell.ensures
    ∙ ap (λ (xs : List ℕ). overwrite xs out) (picked (hex_cut c.args.ids.now) rows n row.0))
