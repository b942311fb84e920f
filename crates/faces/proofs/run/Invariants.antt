-- `run` meets its contract: what is passed and what is left add up to the whole span.
use Rattle.std.proofs.Common.{◌≡◌, ◌+◌}
use lib.ListN.{drop}
use Rattle.faces.specs.Inner.Walk.{span}
use Rattle.faces.proofs.run.Given as goal

abbrev pub invariant-loop-i : goal.invariant-loop-i
invariant-loop-i l = l.i + span l.separators (drop l.i l.ids) ≡ span l.separators l.ids
