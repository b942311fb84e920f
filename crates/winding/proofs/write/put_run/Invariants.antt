-- `write::put_run` meets its contract. The loop's invariant: the first i entries of the turned run are written, and while
-- there are more, k is where the next of them stands in the run.
use Rattle.std.proofs.Common.{◌≡◌, ◌-◌, ◌<◌, cond, length, ◌++◌, take, drop}
use Rattle.winding.specs.Turn.{turned}
use Rattle.winding.proofs.write.put_run.Given as goal

abbrev pub invariant-loop-i : goal.invariant-loop-i
invariant-loop-i l =
    (l.i < length l.run → l.k ≡ cond l.back (length l.run - 1 - l.i) l.i)
    × (l.out ≡ take l.i (turned l.back l.run) ++ drop l.i l.initial.out)
