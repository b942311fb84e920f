-- `rows::third_parts` meets its contract: each arm's digits are the table's, and a kind without an arm is refused.
use Rattle.parts.proofs.Answered.{one_refused}
use Rattle.parts.proofs.rows.third_parts.Goals as goal

pub returns-in_default : goal.returns-in_default
returns-in_default c = one_refused _ _ _ _ _ _ c.lacking.ensures
