-- `text::Writer::put_record` meets its contract: the header line and the simplexes behind it are one text.
use Rattle.std.proofs.Common.{[], ◌∷◌, ◌*◌, arith}
use Rattle.records.specs.Text.{line, simplex_lines, record_text}
use Rattle.records.proofs.Places.{wrote_more}
use Rattle.records.proofs.text.Writer.put_record.Goals as goal

pub returns : goal.returns
unfolding record_text
returns c =
    let a = c.args in
    let r = a.answer in
    wrote_more (line a.number (r.refusal ∷ r.count ∷ [])) (simplex_lines r.kind a.ids.now r.count) 63 (105 * r.count) _ _ _ _ (omega arith) (omega arith)
    c.put_line.ensures c.put_simplexes.ensures
