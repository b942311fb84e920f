-- `cells::put_cell` meets its contract: the text is that of what the split answers, which is few simplexes.
use Rattle.std.proofs.Common.{sym, ◌∙◌, subst, arith}
use Rattle.records.proofs.Places.{wrote_within}
use Rattle.split.specs.Text.{cell_text}
use Rattle.split.proofs.Few.{Few, split_few}
use Rattle.split.proofs.cells.put_cell.Goals as goal

pub put_record-requires : goal.put_record-requires
put_record-requires c =
    let a = c.args in
    let f = subst Few (sym (c.into.ensures ∙ c.to_simplexes-outcome.ensures.answered)) (split_few a.kind a.ids.now) in
    record { kind_bound = f.slim; kind_in_bounds = omega (arith, f.within, c.to_simplexes-outcome.auto.out); count_in_bounds = omega (arith, f.few) }

pub returns : goal.returns
unfolding cell_text
returns c =
    let a = c.args in
    let f = split_few a.kind a.ids.now in
    wrote_within _ _ 693 _ _ (omega (arith, f.few))
    (rw (c.into.ensures ∙ c.to_simplexes-outcome.ensures.answered, c.to_simplexes-outcome.ensures.left) at c.put_record.ensures)
