-- `text::Writer::put_simplexes` meets its contract: before turn i the lines of the first i simplexes are written.
use Rattle.std.proofs.Common.{◌*◌}
use Rattle.records.specs.Inner.Writer.{Wrote}
use Rattle.records.specs.Text.{simplex_lines}
use Rattle.records.proofs.text.Writer.put_simplexes.Given as goal

abbrev pub invariant-loop-i : goal.invariant-loop-i
invariant-loop-i l = Wrote (simplex_lines l.kind l.ids l.i) (105 * l.i) l.fn.self l.self
