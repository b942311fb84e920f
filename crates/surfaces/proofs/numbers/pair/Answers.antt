-- `numbers::pair` meets its contract: the lesser stands in front.
use native.Mathlib.Omega.{arith}
use Rattle.surfaces.proofs.Numbering.{pair_ordered}
use Rattle.surfaces.proofs.numbers.pair.Goals as goal

pub returns : goal.returns
returns c =
    (rw (c.min.ensures, c.max.ensures) (pair_ordered c.args.a c.args.b), rw (c.min.ensures, c.max.ensures) (omega arith))
