-- `phed::regular` meets its contract: each return knows how the tests above it went, and the nodes of four triangles
-- are twelve, those of six quads twenty-four.
use mathlib.Core.Path.{refl, ◌∙◌}
use borrow.Author.Tests.{eq-eqb, ne_eqb}
use native.Mathlib.Omega.{arith}
use Rattle.recognise.specs.Recognise.{regular}
use Rattle.recognise.proofs.Nodes.{length_nodes}
use Rattle.recognise.proofs.phed.regular.Goals as goal

pub returns-then-not-is_closed : goal.returns-then-not-is_closed
unfolding regular
returns-then-not-is_closed c = rw (← c.is_closed.ensures, c.if-not-is_closed.true)

pub nodes_in-requires : goal.nodes_in-requires
nodes_in-requires c = (omega arith, length_nodes 3 _ ∙ rw (← c.tally.ensures, c.if-tally-eq4.true) refl)

pub returns-then-tally-eq4 : goal.returns-then-tally-eq4
unfolding regular
returns-then-tally-eq4 c =
    c.tet.ensures
    ∙ rw (
      c.nodes_in.ensures,
      ← c.is_closed.ensures,
      c.if-not-is_closed.false,
      ← c.tally.ensures,
      eq-eqb _ 4 c.if-tally-eq4.true,
    )

pub nodes_in-requires-then-tally-eq6 : goal.nodes_in-requires-then-tally-eq6
nodes_in-requires-then-tally-eq6 c = (omega arith, length_nodes 4 _ ∙ rw (← c.tally-2.ensures, c.if-tally-eq6.true) refl)

pub returns-then-tally-eq6 : goal.returns-then-tally-eq6
unfolding regular
returns-then-tally-eq6 c =
    c.brick.ensures
    ∙ rw (
      c.nodes_in-then-tally-eq6.ensures,
      ← c.is_closed.ensures,
      c.if-not-is_closed.false,
      ← c.tally.ensures,
      ne_eqb _ 4 c.if-tally-eq4.false,
      ← c.tally-2.ensures,
      eq-eqb _ 6 c.if-tally-eq6.true,
    )

pub returns : goal.returns
unfolding regular
returns c =
    rw (
      ← c.is_closed.ensures,
      c.if-not-is_closed.false,
      ← c.tally.ensures,
      ne_eqb _ 4 c.if-tally-eq4.false,
      ← c.tally-2.ensures,
      ne_eqb _ 6 c.if-tally-eq6.false,
    )
