-- `numbers::number_edges` meets its contract: before turn i the first i edges have their numbers, and all are below 768.
use Prim.Native.Nat.{ℕ, ◌<◌}
use mathlib.Core.Path.{◌≡◌}
use lib.ListN.{length, get_or}
use Rattle.surfaces.specs.Inner.Numbers.{edge_number, Few}
use Rattle.surfaces.proofs.numbers.number_edges.Given as goal

abbrev pub invariant-loop-i : goal.invariant-loop-i
invariant-loop-i g l =
    ((k : ℕ) → k < l.i → get_or l.edges k 0 ≡ edge_number l.numbers l.next k) × Few l.edges
    × (length l.edges ≡ length l.numbers)
