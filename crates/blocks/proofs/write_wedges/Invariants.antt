-- `write_wedges` meets its contract: before turn i the output holds the tetrahedra of the first i wedges, and behind
-- them what it held at entry; the row is that of wedge i.
use mathlib.Core.Path.{◌≡◌}
use mathlib.Core.List.{[]}
use lib.ListN.{get_or, take}
use Rattle.base.specs.Outcome.{overwrite}
use Rattle.cuts.specs.Demand3.{splits}
use Rattle.cuts.specs.Inner.Strings.{wedge_place}
use Rattle.blocks.specs.Inner.Filled.{cells_by}
use Rattle.blocks.proofs.write_wedges.Given as goal

abbrev pub invariant-loop-i : goal.invariant-loop-i
invariant-loop-i l =
    (l.out ≡ overwrite (splits (cells_by 13 (take l.i l.wedges))) l.initial.out)
    × (l.row ≡ wedge_place (get_or l.wedges l.i []))
