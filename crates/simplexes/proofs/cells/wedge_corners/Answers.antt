-- `cells::wedge_corners` meets its contract: the place of the smallest and the diagonal that is left choose the row.
use mathlib.Core.Path.{sym, ◌∙◌, ap}
use Prim.Native.Nat.{ℕ, min}
use Rattle.cuts.proofs.Cuts.{wedge_row}
use Rattle.simplexes.proofs.Laws.{byte_is}
use Rattle.simplexes.proofs.cells.wedge_corners.Goals as goal

pub returns : goal.returns
returns c =
    let first = c.first_diagonal-first.result in
    rw (c.wedge_table.ensures, c.from.ensures, byte_is first)
    (wedge_row c.args.ids.now c.min-place.result first
    (c.min-place.ensures ∙ ap (λ (k : ℕ). min k 5) c.smallest.ensures)
    (sym (rw c.wedge_quads.ensures at c.first_diagonal-first.ensures)))
