-- `smallest::smallest` meets its contract: before turn i `best` is the first place of the smallest of the first i ids,
-- and `least` is the id there.
use mathlib.Core.Path.{◌≡◌}
use Prim.Native.Nat.{◌<◌}
use lib.ListN.{length, get_or}
use Rattle.simplexes.proofs.Scan.{Scanned}
use Rattle.simplexes.proofs.smallest.smallest.Given as goal

abbrev pub invariant-loop-i : goal.invariant-loop-i
invariant-loop-i l = Scanned l.ids l.best l.i × (0 < length l.ids → l.least ≡ get_or l.ids l.best 0)
