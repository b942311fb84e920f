-- `cells::renumber_any` meets its contract: the eight ids that are gathered fill the cell.
use mathlib.Core.Path.{◌≡◌, ◌∙◌, ap}
use mathlib.Core.List.{[]}
use Prim.Native.Nat.{ℕ, ◌<◌, min}
use native.Mathlib.Omega.{arith}
use lib.ListN.{get_or}
use Rattle.base.specs.Gather.{digits, undigit}
use Rattle.base.proofs.Picks.{length-pick}
use Rattle.cuts.specs.Rows.{branch, renumberings}
use Rattle.cuts.specs.Smallest.{smallest_pos}
use Rattle.cuts.specs.Split.{renumbered}
use Rattle.cuts.proofs.Cuts.{length_digits}
use Rattle.cuts.proofs.Strings.{turn_string}
use Rattle.simplexes.proofs.Laws.{fills}
use Rattle.simplexes.proofs.cells.renumber_any.Goals as goal

pub returns : goal.returns
returns c =
    let ids = c.args.ids.now in
    let place = c.min-place.result in
    let few : place < 8 = omega (arith, c.min-place.ensures) in
    let order = digits 8 (branch renumberings 0 (smallest_pos ids)) in
    let row : undigit (get_or c.renumberings.result.now place []) ≡ digits 8 (branch renumberings 0 (smallest_pos ids)) =
    rw c.renumberings.ensures
    (turn_string place few
    ∙ ap (λ (k : ℕ). digits 8 (get_or renumberings k 0)) (c.min-place.ensures ∙ ap (λ (k : ℕ). min k 7) c.smallest.ensures)) in
    c.gather_digits.ensures ∙ rw row (fills (renumbered ids) _ (length-pick ids order ∙ length_digits 8 (branch renumberings 0 (smallest_pos ids))))
