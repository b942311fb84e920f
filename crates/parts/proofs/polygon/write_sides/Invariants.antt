-- `polygon::write_sides` meets its contract: before turn i the first i sides are written, the other entries those at entry.
use mathlib.Core.Path.{◌≡◌}
use Prim.Native.Nat.{◌+◌}
use mathlib.Core.List.{◌++◌}
use lib.ListN.{take, drop}
use Rattle.faces.specs.Edges.{cycle}
use Rattle.parts.specs.Subentities.{both_ends}
use Rattle.parts.proofs.polygon.write_sides.Given as goal

abbrev pub invariant-loop-i : goal.invariant-loop-i
invariant-loop-i l = l.out ≡ take (l.i + l.i) (both_ends (cycle l.ids)) ++ drop (l.i + l.i) l.initial.out
