-- `input::Input::frame` meets its contract: each read keeps what was in hand, and one that gives some leaves less room in
-- the buffer.
use Rattle.std.proofs.Common.{◌-◌}
use Rattle.split.specs.Inner.Hand.{Kept}
use Rattle.split.proofs.input.Input.frame.Given as goal

abbrev pub invariant-loop-self : goal.invariant-loop-self
invariant-loop-self l = Kept l.fn.self l.self

abbrev pub decreases-loop-self : goal.decreases-loop-self
decreases-loop-self l = 65536 - (l.self.to - l.self.from)
