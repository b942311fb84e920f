-- `text::Writer::put_line` meets its contract: the first number, the others and the line feed are one text.
use Rattle.std.proofs.Common.{◌≡◌, [], ◌∷◌, ◌++◌, ◌+◌, ◌*◌, length, take, get_or, arith, append-nil, append_assoc}
use lib.Seq.{take-length}
use Rattle.records.specs.Text.{line_feed, decimal, spaced, line}
use Rattle.records.proofs.Places.{wrote_more}
use Rattle.records.proofs.Lines.{spaced_more}
use Rattle.records.proofs.text.Writer.put_line.Goals as goal

pub loop-number-init : goal.loop-number-init
unfolding spaced
loop-number-init c = rw append-nil c.put_number.ensures

pub loop-number-preserved : goal.loop-number-preserved
loop-number-preserved c =
    let a = c.args in
    let i = c.loop-number.number-index in
    let n = get_or a.others.now i 0 in
    rw (spaced_more a.others.now i (omega arith), ← append_assoc)
    (wrote_more (decimal a.first ++ spaced (take i a.others.now)) (spaced (n ∷ [])) (20 + 21 * i) 21 _ _ _ _ (omega arith) (omega arith) c.loop-number.invariant c.put_spaced.ensures)

pub returns : goal.returns
unfolding line
returns c =
    let a = c.args in
    let i = c.loop-number.number-index in
    let e : i ≡ length a.others.now = omega arith in
    rw (← append_assoc)
    (wrote_more (decimal a.first ++ spaced a.others.now) (line_feed ∷ []) (20 + 21 * length a.others.now) 1 _ _ _ _ (omega arith) (omega arith) (rw (e, take-length) at c.loop-number.invariant) c.put_bytes.ensures)
