-- `wire::write_ids` meets its contract: before turn i the bytes of the first i ids stand over the front.
use Rattle.std.proofs.Common.{◌≡◌, take}
use Rattle.base.specs.Outcome.{overwrite}
use Rattle.records.specs.Wire.{id_bytes}
use Rattle.records.proofs.wire.write_ids.Given as goal

abbrev pub invariant-loop-at : goal.invariant-loop-at
invariant-loop-at l = l.out ≡ overwrite (id_bytes (take l.at l.ids)) l.initial.out
