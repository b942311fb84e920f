-- `checks::all_bits` meets its contract: joined bits are no fewer than those of each id, and a separator has the highest.
use mathlib.Core.Path.{◌≡◌}
use Prim.Native.Nat.{ℕ, ◌<◌}
use lib.ListN.{drop}
use Rattle.base.specs.Checks.{holds_separator}
use Rattle.base.proofs.checks.all_bits.Given as goal

abbrev pub highest : ℕ
highest = 9223372036854775808

abbrev pub invariant-loop-id : goal.invariant-loop-id
invariant-loop-id l = l.bits < highest → holds_separator l.ids ≡ holds_separator (drop l.id-index l.ids)
