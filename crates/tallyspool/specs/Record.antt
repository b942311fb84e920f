-- The split of the cell that one record holds (document 01, 'Records and the splitting program').
use Rattle.std.specs.Prelude.{ℕ, cond, List, eqb, length, drop}
use Rattle.base.specs.Outcome.{Outcome, refused}
use Rattle.base.specs.declared.refusals.Answer.{Answer}
use Rattle.records.specs.Frame.{frame_at}
use Rattle.records.specs.Wire.{ids_in}
use Rattle.records.specs.declared.frame.Frame.{Frame}
use Rattle.records.specs.declared.frame.Frame.TheVariants.{Whole, End, Cut, Odd}
use Rattle.cuts.specs.Split.{to_simplexes}

-- refused by 21, whatever else is wrong
abbrev pub bad_record : List ℕ → Outcome Answer (List ℕ)
bad_record out = record { answer = refused 21; lent = out }

-- a whole record, and no byte behind it, is answered as the split of its kind and ids; all else is refused by 21
abbrev pub split_frame : List ℕ → Frame → List ℕ → Outcome Answer (List ℕ)
split_frame bytes (Whole kind start count next) out =
    cond (eqb next (length bytes)) (to_simplexes kind (ids_in count (drop start bytes)) out) (bad_record out)
split_frame bytes End out = bad_record out
split_frame bytes Cut out = bad_record out
split_frame bytes Odd out = bad_record out

unfoldable pub split_record : List ℕ → List ℕ → Outcome Answer (List ℕ)
split_record bytes out = split_frame bytes (frame_at bytes 0) out
