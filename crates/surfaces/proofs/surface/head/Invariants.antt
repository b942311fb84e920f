-- `surface::head` meets its contract: the place before has the same first node, unless a separator stands there.
use mathlib.Core.Path.{◌≡◌}
use Rattle.surfaces.specs.Inner.Places.{head}
use Rattle.surfaces.proofs.surface.head.Given as goal

abbrev pub invariant-loop-k : goal.invariant-loop-k
invariant-loop-k l = head l.ids l.k ≡ head l.ids l.i
