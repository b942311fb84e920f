-- `text::Writer::put_spaced` meets its contract: a blank and the number behind it are one text.
use Rattle.std.proofs.Common.{[], ◌∷◌, arith}
use Rattle.records.specs.Text.{blank, decimal}
use Rattle.records.proofs.Places.{wrote_more}
use Rattle.records.proofs.Lines.{spaced_one}
use Rattle.records.proofs.text.Writer.put_spaced.Goals as goal

pub returns : goal.returns
returns c =
    rw spaced_one (wrote_more (blank ∷ []) (decimal c.args.number) 1 20 21 _ _ _ (omega arith) (omega arith) c.put_bytes.ensures c.put_number.ensures)
