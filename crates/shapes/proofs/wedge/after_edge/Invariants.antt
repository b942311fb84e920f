-- `wedge::after_edge` meets its contract: no quad passed runs along the edge.
use Prim.Native.Nat.{ℕ, ◌<◌}
use mathlib.Core.Path.{◌≡◌}
use Rattle.shapes.specs.Wedge.{runs_at}
use Rattle.shapes.proofs.wedge.after_edge.Given as goal

abbrev pub invariant-loop-k : goal.invariant-loop-k
invariant-loop-k l = (k : ℕ) → k < l.k → runs_at l.quads k l.v l.w ≡ 4
