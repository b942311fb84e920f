-- `text::Writer::put_end` meets its contract: the word, the number behind a blank and the line feed are one text.
use Rattle.std.proofs.Common.{[], ◌∷◌, ◌++◌, arith}
use Rattle.records.specs.Text.{line_feed, spaced, end_text}
use Rattle.records.proofs.Places.{wrote_more}
use Rattle.records.proofs.text.Writer.put_end.Goals as goal

pub returns : goal.returns
unfolding end_text
returns c =
    let begun = c.args.begun in
    wrote_more (101 ∷ 110 ∷ 100 ∷ []) (spaced (begun ∷ []) ++ (line_feed ∷ [])) 3 22 25 _ _ _ (omega arith) (omega arith) c.put_bytes.ensures
    (wrote_more (spaced (begun ∷ [])) (line_feed ∷ []) 21 1 22 _ _ _ (omega arith) (omega arith) c.put_spaced.ensures c.put_bytes-2.ensures)
