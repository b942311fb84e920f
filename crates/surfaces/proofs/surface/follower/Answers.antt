-- `surface::follower` meets its contract: each return knows whether the face ends at the place.
use borrow.Author.Tests.{eq-eqb, ne_eqb}
use Rattle.surfaces.proofs.surface.follower.Goals as goal

pub returns-then-next : goal.returns-then-next
returns-then-next c = rw (← c.node-next.ensures, eq-eqb _ _ c.if-next.true) c.head.ensures

pub returns : goal.returns
returns c = rw (← c.node-next.ensures, ne_eqb _ _ c.if-next.false)
