-- `lent::copy` meets its contract: before turn i the first i entries are the list's, the others those at entry.
use mathlib.Core.Path.{◌≡◌}
use mathlib.Core.List.{◌++◌}
use lib.ListN.{take, drop}
use Rattle.base.proofs.lent.copy.Given as goal

abbrev pub invariant-loop-at : goal.invariant-loop-at
invariant-loop-at l = l.out ≡ take l.at l.list ++ drop l.at l.initial.out
