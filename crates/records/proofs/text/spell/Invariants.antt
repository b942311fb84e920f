-- `text::spell` meets its contract: the digits left to spell, put before those that are written, give the whole.
use Rattle.std.proofs.Common.{◌≡◌, ◌++◌, drop, length}
use Rattle.records.specs.Text.{spelled}
use Rattle.records.proofs.text.spell.Given as goal

abbrev pub invariant-loop-i : goal.invariant-loop-i
invariant-loop-i l = spelled l.i l.rest ++ drop l.i l.bytes ≡ spelled (length l.initial.bytes) l.number
