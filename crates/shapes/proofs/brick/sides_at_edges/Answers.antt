-- `brick::sides_at_edges` meets its contract: the first search that finds none shows that a side face is lacking.
use mathlib.Core.Path.{refl}
use mathlib.Core.List.{[], ◌∷◌}
use Rattle.shapes.specs.Brick.{sides}
use Rattle.shapes.specs.Inner.Made.{sides_of}
use Rattle.shapes.proofs.Sought.{lacks_first, lacks_second, lacks_third, lacks_fourth, lacks-none, near}
use Rattle.shapes.proofs.brick.sides_at_edges.Goals as goal

pub returns-in_err-side : goal.returns-in_err-side
unfolding sides
returns-in_err-side c = rw c.from_residual.ensures (lacks_first (sides c.args.quads.now c.args.o) c.in_err-side.ensures)

pub returns-in_err-side-2 : goal.returns-in_err-side-2
unfolding sides
returns-in_err-side-2 c = rw c.from_residual-in_err-side-2.ensures (lacks_second (sides c.args.quads.now c.args.o) c.in_err-side-2.ensures)

pub returns-in_err-side-3 : goal.returns-in_err-side-3
unfolding sides
returns-in_err-side-3 c = rw c.from_residual-in_err-side-3.ensures (lacks_third (sides c.args.quads.now c.args.o) c.in_err-side-3.ensures)

pub returns-in_err-side-4 : goal.returns-in_err-side-4
unfolding sides
returns-in_err-side-4 c = rw c.from_residual-in_err-side-4.ensures (lacks_fourth (sides c.args.quads.now c.args.o) c.in_err-side-4.ensures)

pub returns : goal.returns
unfolding sides
returns c =
    let a = c.in_ok-side.ensures in
    let b = c.in_ok-side-2.ensures in
    let d = c.in_ok-side-3.ensures in
    let e = c.in_ok-side-4.ensures in
    rw (a.0, b.0, d.0, e.0)
    (lacks-none (sides_of (c.in_ok-side.field-0 ∷ c.in_ok-side-2.field-0 ∷ c.in_ok-side-3.field-0 ∷ c.in_ok-side-4.field-0 ∷ [])) a.1 b.1 d.1 e.1, refl, near _ _ _ _ a.1 b.1 d.1 e.1)
