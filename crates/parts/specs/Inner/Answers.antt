-- How a result of `subentities` is the answer that C sees.
use Rattle.std.specs.Prelude.{ℕ, Option, Some, None, Result, Ok, Err}
use Rattle.base.specs.Inner.Numbers.{number_of, refusal_number}
use Rattle.base.specs.declared.refusals.Given.{Given}
use Rattle.base.specs.declared.refusals.Refusal.{Refusal}
use Rattle.parts.specs.declared.subentities.Written.{Written}
use Rattle.parts.specs.Subentities.{refused_parts}
use Rattle.parts.specs.declared.subentities.Parts.{Parts}

-- a second pair that may be missing
abbrev pub kind_or_zero : Option Given → ℕ
kind_or_zero None = 0
kind_or_zero (Some g) = number_of g.kind

abbrev pub count_or_zero : Option Given → ℕ
count_or_zero None = 0
count_or_zero (Some g) = g.count

-- what a result is to C: the kinds and counts of what was written, or the refusal
abbrev pub parts_answer_of : Result Written Refusal → Parts
parts_answer_of (Ok w) =
    record {
      refusal = 0;
      kind = number_of w.first.kind;
      count = w.first.count;
      kind2 = kind_or_zero w.second;
      count2 = count_or_zero w.second;
    }
parts_answer_of (Err refusal) = refused_parts (refusal_number refusal)
