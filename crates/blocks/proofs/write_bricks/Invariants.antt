-- `write_bricks` meets its contract: before turn i the output holds the tetrahedra of the first i bricks and perhaps
-- filler behind them; the rows are those of brick i and of the next, or of the last.
use mathlib.Core.Path.{◌≡◌}
use mathlib.Core.List.{[]}
use Prim.Native.Nat.{◌+◌, min}
use lib.ListN.{length, get_or, take}
use Rattle.cuts.specs.Demand3.{splits}
use Rattle.cuts.specs.Table.{hex_place}
use Rattle.simplexes.specs.Inner.Written.{Ahead}
use Rattle.blocks.specs.Inner.Filled.{cells_by}
use Rattle.blocks.proofs.write_bricks.Given as goal

abbrev pub invariant-loop-i : goal.invariant-loop-i
invariant-loop-i l =
    (l.at ≡ length (splits (cells_by 15 (take l.i l.bricks))))
    × Ahead (splits (cells_by 15 (take l.i l.bricks))) l.initial.out l.out
    × (l.row ≡ hex_place (get_or l.bricks l.i []))
    × (l.next_row ≡ hex_place (get_or l.bricks (min l.last (l.i + 1)) []))
