-- `rows::second_parts` meets its contract: each arm's digits are the table's, and a kind without an arm is refused.
use mathlib.Core.Path.{refl}
use Rattle.base.specs.Kinds.{nodes_of}
use Rattle.parts.specs.Tables.{table_of}
use Rattle.parts.specs.Subentities.{depth, codim_refusal, entities, refused_parts}
use Rattle.parts.specs.Inner.Answers.{parts_answer_of}
use Rattle.parts.proofs.Answered.{one_refused, permitted}
use Rattle.parts.proofs.rows.second_parts.Goals as goal

pub returns-in-Tet4 : goal.returns-in-Tet4
unfolding codim_refusal depth entities table_of nodes_of
returns-in-Tet4 c = rw c.in-Tet4.is c.of_kind-in-Tet4.ensures

pub returns-in-Wedge6 : goal.returns-in-Wedge6
unfolding codim_refusal depth entities table_of nodes_of
returns-in-Wedge6 c = rw c.in-Wedge6.is c.of_kind-in-Wedge6.ensures

pub returns-in-Hex8 : goal.returns-in-Hex8
unfolding codim_refusal depth entities table_of nodes_of
returns-in-Hex8 c = rw c.in-Hex8.is c.of_kind-in-Hex8.ensures

pub returns-in-Pgon : goal.returns-in-Pgon
unfolding codim_refusal depth entities table_of nodes_of
returns-in-Pgon c =
    rw c.in-Pgon.is (rw c.alike.ensures at (permitted refused_parts parts_answer_of refl _ _ _ _ _ c.write_copy.ensures))

pub returns-in_default : goal.returns-in_default
returns-in_default c = one_refused _ _ _ _ _ _ c.lacking.ensures
