-- `phed::mixed` meets its contract: each return knows how the tests above it went, and the nodes of two triangles are six,
-- those of three quads twelve.
use mathlib.Core.Path.{refl, ◌∙◌}
use borrow.Author.Tests.{eq-eqb, ne_eqb}
use native.Mathlib.Omega.{arith}
use Rattle.recognise.specs.Recognise.{mixed}
use Rattle.recognise.proofs.Nodes.{length_nodes}
use Rattle.recognise.proofs.phed.mixed.Goals.{then-tally-ne2-via-then-tally-ne2, then-tally-ne2-via-else-tally-ne2+then-tally-ne3}
use Rattle.recognise.proofs.phed.mixed.Goals as goal

pub returns-then-tally-ne2 : goal.returns-then-tally-ne2
unfolding mixed
returns-then-tally-ne2 c =
    elim c.then-tally-ne2.branch [
      | then-tally-ne2-via-then-tally-ne2 w ↦ rw (← c.tally.ensures, ne_eqb _ 2 w.if-tally-ne2.true)
      | then-tally-ne2-via-else-tally-ne2+then-tally-ne3 w ↦
          rw (← c.tally.ensures, eq-eqb _ 2 w.if-tally-ne2.false, ← w.tally-else-tally-ne2.ensures, ne_eqb _ 3 w.if-tally-ne3.true)
    ]

pub nodes_in-requires : goal.nodes_in-requires
nodes_in-requires c = (omega arith, length_nodes 3 _ ∙ rw (← c.tally.ensures, c.if-tally-ne2.false) refl)

pub nodes_in-requires-2 : goal.nodes_in-requires-2
nodes_in-requires-2 c = (omega arith, length_nodes 4 _ ∙ rw (← c.tally-else-tally-ne2.ensures, c.if-tally-ne3.false) refl)

pub returns : goal.returns
unfolding mixed
returns c =
    rw (
      c.wedge.ensures,
      c.nodes_in.ensures,
      c.nodes_in-2.ensures,
      ← c.tally.ensures,
      eq-eqb _ 2 c.if-tally-ne2.false,
      ← c.tally-else-tally-ne2.ensures,
      eq-eqb _ 3 c.if-tally-ne3.false,
    )
