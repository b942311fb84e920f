-- `surface::occurs_later` meets its contract: each return knows whether a separator stands at the place.
use mathlib.Core.Path.{sym, ◌∙◌}
use borrow.Author.Tests.{eq-eqb, ne_eqb}
use Rattle.surfaces.proofs.Flat.{follower_id}
use Rattle.surfaces.proofs.surface.occurs_later.Goals as goal

pub returns-then-from : goal.returns-then-from
returns-then-from c = rw (← c.node-from.ensures, eq-eqb _ _ c.if-from.true)

pub occurrences-requires : goal.occurrences-requires
occurrences-requires c =
    let a = c.args in (
      c.if-from.false,
      λ e.
          follower_id a.ids.now a.i (λ q. c.if-from.false (c.node-from.ensures ∙ q)) (sym c.follower.ensures ∙ e),
    )

pub returns : goal.returns
returns c = rw (← c.node-from.ensures, ne_eqb _ _ c.if-from.false, c.occurrences.ensures, c.follower.ensures)
