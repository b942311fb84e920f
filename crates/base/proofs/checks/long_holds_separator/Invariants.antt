-- `checks::long_holds_separator` meets its contract: what is left decides, since no separator stands before it.
use Rattle.std.proofs.Common.{◌≡◌, length}
use Rattle.base.specs.Checks.{holds_separator}
use Rattle.base.proofs.checks.long_holds_separator.Given as goal

abbrev pub invariant-loop-part : goal.invariant-loop-part
invariant-loop-part l = holds_separator l.rest ≡ holds_separator l.ids

abbrev pub decreases-loop-part : goal.decreases-loop-part
decreases-loop-part l = length l.rest
