-- `words::read_full` meets its contract: what came is within the bytes, and each read that gave some leaves less room.
use Rattle.std.proofs.Common.{◌≤◌, ◌-◌, length}
use Rattle.replay.proofs.words.read_full.Given as goal

abbrev pub invariant-loop-done : goal.invariant-loop-done
invariant-loop-done l = l.done ≤ length l.bytes

abbrev pub decreases-loop-done : goal.decreases-loop-done
decreases-loop-done l = length l.bytes - l.done
