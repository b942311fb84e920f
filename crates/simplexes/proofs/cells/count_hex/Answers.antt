-- `cells::count_hex` meets its contract: the case of the renumbered brick has the count.
use mathlib.Core.Path.{◌∙◌, ap}
use mathlib.Core.List.{[]}
use Prim.Native.Nat.{ℕ}
use lib.ListN.{length}
use Rattle.cuts.specs.Rows.{branch, hex_rows}
use Rattle.cuts.specs.Split.{cut, split_count, hex_case}
use Rattle.simplexes.proofs.cells.count_hex.Goals as goal

pub returns : goal.returns
unfolding split_count cut
returns c =
    let case = c.hex_case.ensures.0 ∙ ap hex_case c.renumber_any.ensures in
    (c.case_count.ensures.0 ∙ ap (λ (k : ℕ). length (branch hex_rows [] k)) case, c.case_count.ensures.1)
