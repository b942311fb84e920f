-- `text::Writer::put_line` meets its contract: before turn i the first number and i others are written, each of these behind a blank.
use Rattle.std.proofs.Common.{◌++◌, ◌+◌, ◌*◌, take}
use Rattle.records.specs.Inner.Writer.{Wrote}
use Rattle.records.specs.Text.{decimal, spaced}
use Rattle.records.proofs.text.Writer.put_line.Given as goal

abbrev pub invariant-loop-number : goal.invariant-loop-number
invariant-loop-number l =
    Wrote (decimal l.first ++ spaced (take l.number-index l.others)) (20 + 21 * l.number-index) l.fn.self l.self
