-- `gather::gather_within` meets its contract: before turn i the first i entries are picked, the others those at entry.
use mathlib.Core.Path.{◌≡◌}
use mathlib.Core.List.{◌++◌}
use lib.ListN.{take, drop}
use Rattle.base.specs.Gather.{pick, undigit}
use Rattle.parts.proofs.gather.gather_within.Given as goal

abbrev pub invariant-loop-place : goal.invariant-loop-place
invariant-loop-place l = l.out ≡ take l.place (pick l.ids (undigit l.row)) ++ drop l.place l.initial.out
