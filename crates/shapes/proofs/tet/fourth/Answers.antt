-- `tet::fourth` meets its contract: the nodes passed are of the first triangle, so what is left decides.
use Rattle.std.proofs.Common.{sym, ◌∙◌}
use lib.ListN.{drop_of_length-le}
use Rattle.shapes.specs.Tet.{fourth}
use Rattle.shapes.proofs.Seeks.{fourth_on, fourth_here}
use Rattle.shapes.proofs.tet.fourth.Goals as goal

pub returns-then-not-in_triangle : goal.returns-then-not-in_triangle
returns-then-not-in_triangle c =
    sym (fourth_here _ _ _ _ c.args.nodes.now c.loop-x-test.true (sym c.if-not-in_triangle.ensures)) ∙ c.loop-x.invariant

pub loop-x-preserved : goal.loop-x-preserved
loop-x-preserved c =
    sym (fourth_on _ _ _ _ c.args.nodes.now c.loop-x-test.true (sym c.if-not-in_triangle.ensures)) ∙ c.loop-x.invariant

pub returns : goal.returns
unfolding fourth
returns c = rw (drop_of_length-le c.args.nodes.now c.loop-x-test.false) at c.loop-x.invariant
