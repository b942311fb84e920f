-- `rows::of_kind` meets its contract: the row under an answer of one kind.
use mathlib.Core.Path.{refl}
use Rattle.parts.specs.Subentities.{refused_parts}
use Rattle.parts.specs.Inner.Answers.{parts_answer_of}
use Rattle.parts.proofs.Answered.{permitted}
use Rattle.parts.proofs.rows.of_kind.Goals as goal

pub returns : goal.returns
returns c = rw c.alike.ensures at (permitted refused_parts parts_answer_of refl _ _ _ _ _ c.write_row.ensures)
