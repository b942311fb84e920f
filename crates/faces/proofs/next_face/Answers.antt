-- `next_face` meets its contract: the separators at the place are passed, then the ids behind them.
use Rattle.std.proofs.Common.{refl}
use Rattle.faces.specs.Inner.Walk.{next_face}
use Rattle.faces.proofs.next_face.Goals as goal

pub returns : goal.returns
unfolding next_face
returns c = rw (c.past-end.ensures, c.past-start.ensures) refl
