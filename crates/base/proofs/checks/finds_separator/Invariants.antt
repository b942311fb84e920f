-- `checks::finds_separator` meets its contract: what was found, or else what is left to read, decides.
use mathlib.Core.Path.{◌≡◌}
use mathlib.Core.Bool.{◌||◌}
use lib.ListN.{drop}
use Rattle.base.specs.Checks.{holds_separator}
use Rattle.base.proofs.checks.finds_separator.Given as goal

abbrev pub invariant-loop-id : goal.invariant-loop-id
invariant-loop-id l = (l.found || holds_separator (drop l.id-index l.ids)) ≡ holds_separator l.ids
