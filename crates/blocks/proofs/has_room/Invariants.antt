-- `has_room` meets its contract: before turn i the first i bricks have taken their room from the whole.
use mathlib.Core.Path.{◌≡◌}
use Prim.Native.Nat.{◌+◌}
use lib.ListN.{take}
use Rattle.blocks.specs.Blocks.{counts}
use Rattle.blocks.specs.Inner.Filled.{cells_by}
use Rattle.blocks.proofs.has_room.Given as goal

abbrev pub invariant-loop-brick : goal.invariant-loop-brick
invariant-loop-brick l = counts (cells_by 15 (take l.brick-index l.bricks)) + l.left ≡ l.room
