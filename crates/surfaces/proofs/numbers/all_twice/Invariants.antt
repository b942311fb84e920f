-- `numbers::all_twice` meets its contract: the places from i on decide.
use Prim.Native.Nat.{◌-◌}
use mathlib.Core.Path.{◌≡◌}
use lib.ListN.{length}
use Rattle.surfaces.specs.Inner.Numbers.{each_twice}
use Rattle.surfaces.proofs.numbers.all_twice.Given as goal

abbrev pub invariant-loop-edge : goal.invariant-loop-edge
invariant-loop-edge g l = each_twice l.edges l.edge-index (length l.edges - l.edge-index) ≡ each_twice l.edges 0 (length l.edges)
