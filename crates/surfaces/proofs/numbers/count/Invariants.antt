-- `numbers::count` meets its contract: before turn i each number's count is how often it was met among the first i.
use Prim.Native.Nat.{ℕ, ◌<◌, ◌≤◌}
use mathlib.Core.Path.{◌≡◌}
use lib.ListN.{length, get_or}
use Rattle.surfaces.specs.Inner.Numbers.{met_in}
use Rattle.surfaces.proofs.numbers.count.Given as goal

abbrev pub invariant-loop-edge : goal.invariant-loop-edge
invariant-loop-edge g l =
    (length l.counts ≡ 768) × ((c : ℕ) → get_or l.counts c 0 ≤ l.edge-index)
    × ((c : ℕ) → c < 768 → get_or l.counts c 0 ≡ met_in l.edges c l.edge-index)
