-- `numbers::number_nodes` meets its contract: before turn i the first i nodes have their numbers, and all are below 24.
use Prim.Native.Nat.{ℕ, ◌<◌}
use mathlib.Core.Path.{◌≡◌}
use lib.ListN.{length, get_or}
use Rattle.base.specs.Kinds.{separator}
use Rattle.surfaces.specs.Inner.Numbers.{place_of, Small}
use Rattle.surfaces.proofs.numbers.number_nodes.Given as goal

abbrev pub invariant-loop-i : goal.invariant-loop-i
invariant-loop-i g l =
    ((k : ℕ) → k < l.i → get_or l.numbers k 0 ≡ place_of l.nodes (get_or l.nodes k separator)) × Small l.numbers
    × (length l.numbers ≡ length l.nodes)
