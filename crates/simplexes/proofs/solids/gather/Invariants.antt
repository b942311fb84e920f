-- `solids::gather` meets its contract: before turn i the first i ids are picked.
use mathlib.Core.Path.{◌≡◌}
use mathlib.Core.List.{◌++◌}
use lib.ListN.{take, drop}
use Rattle.base.specs.Gather.{pick, undigit}
use Rattle.simplexes.proofs.solids.gather.Given as goal

abbrev pub invariant-loop-i : goal.invariant-loop-i
invariant-loop-i g l = l.picked ≡ take l.i (pick l.ids (undigit l.string)) ++ drop l.i l.initial.picked
