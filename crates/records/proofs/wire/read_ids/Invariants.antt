-- `wire::read_ids` meets its contract: before turn i the first i entries are ids of the bytes, the others those at entry.
use Rattle.std.proofs.Common.{◌≡◌, ◌++◌, ◌/◌, take, drop, length}
use Rattle.records.specs.Wire.{ids_in}
use Rattle.records.proofs.wire.read_ids.Given as goal

abbrev pub invariant-loop-at : goal.invariant-loop-at
invariant-loop-at l = l.out ≡ take l.at (ids_in (length l.bytes / 8) l.bytes) ++ drop l.at l.initial.out
