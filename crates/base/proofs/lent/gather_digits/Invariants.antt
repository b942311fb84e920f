-- `lent::gather_digits` meets its contract: before turn i the first i entries are picked, the others those at entry.
use mathlib.Core.Path.{◌≡◌}
use mathlib.Core.List.{◌++◌}
use lib.ListN.{take, drop}
use Rattle.base.specs.Gather.{pick, undigit}
use Rattle.base.proofs.lent.gather_digits.Given as goal

abbrev pub invariant-loop-at : goal.invariant-loop-at
invariant-loop-at l = l.out ≡ take l.at (pick l.ids (undigit l.row)) ++ drop l.at l.initial.out
