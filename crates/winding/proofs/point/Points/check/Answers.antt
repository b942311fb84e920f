-- `Points::check` meets its contract: what the one test finds is an id without a point.
use Rattle.std.proofs.Common.{refl}
use Rattle.winding.proofs.Points.{lacks_any}
use Rattle.winding.proofs.point.Points.check.Goals as goal

pub returns-then-any_without : goal.returns-then-any_without
returns-then-any_without c =
    rw (← lacks_any _ c.args.ids.now c.type_inv.ids, ← c.count.ensures, ← c.any_without.ensures, c.if-any_without.true) refl

pub returns : goal.returns
returns c = rw (← lacks_any _ c.args.ids.now c.type_inv.ids, ← c.count.ensures, ← c.any_without.ensures, c.if-any_without.false) refl
