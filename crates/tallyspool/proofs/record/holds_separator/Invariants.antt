-- `record::holds_separator` meets its contract: what was found, or else what is left to read, decides.
use Rattle.std.proofs.Common.{◌≡◌, ◌/◌, ◌||◌, length, drop}
use Rattle.base.specs.Checks.{holds_separator}
use Rattle.records.specs.Wire.{ids_in}
use Rattle.tallyspool.proofs.record.holds_separator.Given as goal

abbrev pub invariant-loop-id : goal.invariant-loop-id
invariant-loop-id l =
    (l.found || holds_separator (drop l.id-index (ids_in (length l.bytes / 8) l.bytes))) ≡ holds_separator (ids_in (length l.bytes / 8) l.bytes)
