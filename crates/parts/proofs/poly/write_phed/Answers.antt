-- `poly::write_phed` meets its contract: a row picks as many ids as it has digits.
use mathlib.Core.Path.{refl}
use Rattle.base.specs.Inner.Numbers.{answer_of}
use Rattle.base.specs.Outcome.{settle, refused}
use Rattle.base.proofs.Picks.{length-undigit}
use Rattle.parts.proofs.Answered.{permitted}
use Rattle.parts.proofs.poly.write_phed.Goals as goal

pub returns : goal.returns
unfolding settle
returns c = rw length-undigit (permitted refused answer_of refl _ _ _ _ _ c.write_row.ensures)
