-- `solids::put_one` meets its contract: the digit that is read is one of the corners.
use mathlib.Core.Path.{ap}
use lib.ListN.{set}
use Rattle.simplexes.proofs.Laws.{corner_read}
use Rattle.simplexes.proofs.solids.put_one.Goals as goal

pub returns : goal.returns
returns c =
    let a = c.args in
    ap (set a.out.now a.at) (corner_read a.ids.now a.string.now a.at c.corner_of.result c.requires.0 c.requires.2 c.corner_of.ensures)
