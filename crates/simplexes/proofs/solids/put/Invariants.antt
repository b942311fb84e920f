-- `solids::put` meets its contract: before turn i the first 4 * i entries are picked, the others those at entry.
use mathlib.Core.Path.{◌≡◌}
use mathlib.Core.List.{List, ◌++◌}
use Prim.Native.Nat.{ℕ, ◌*◌}
use lib.ListN.{take, drop}
use Rattle.base.specs.Gather.{pick, undigit}
use Rattle.simplexes.proofs.solids.put.Given as goal

-- what is written
abbrev pub whole : ℕ → List ℕ → List ℕ → List ℕ
whole fours ids string = take (fours * 4) (pick ids (undigit string))

abbrev pub invariant-loop-i : goal.invariant-loop-i
invariant-loop-i l =
    l.out ≡ take (l.i * 4) (whole l.fours l.ids l.string) ++ drop (l.i * 4) l.initial.out
