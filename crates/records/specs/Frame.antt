-- A record at a place in bytes (document 01, 'Records and the splitting program').
use Rattle.std.specs.Prelude.{ℕ, ◌+◌, ◌-◌, ◌/◌, ◌%◌, Bool, cond, not, ◌||◌, List, eqb, ltb, length}
use Rattle.records.specs.Wire.{number_at}
use Rattle.records.specs.declared.frame.Frame.{Frame}
use Rattle.records.specs.declared.frame.Frame.TheVariants.{Whole, End, Cut, Odd}

-- a length that no record has: under 2, over 32,770, or not 2 more than a multiple of 8
unfoldable pub odd_length : ℕ → Bool
odd_length len = ltb len 2 || (ltb 32770 len || not (eqb ((len - 2) % 8) 0))

-- what so many bytes behind a record's length hold: a 2-byte kind, then ids up to where the next record begins
abbrev pub whole_at : List ℕ → ℕ → ℕ → Frame
whole_at bytes body len = Whole (number_at 2 bytes body) (body + 2) ((len - 2) / 8) (body + len)

-- of the `have` bytes from a place on: none is a clean end; else the 4-byte length has to be there, to be one
-- that a record has, and to have its bytes behind it
unfoldable pub frame_at : List ℕ → ℕ → Frame
frame_at bytes at =
    let have = length bytes - at in
    let len = number_at 4 bytes at in
    cond (eqb have 0) End
    (cond (ltb have 4) Cut
    (cond (odd_length len) Odd
    (cond (ltb have (4 + len)) Cut (whole_at bytes (at + 4) len))))

-- the number and the values of each case: a record that is cut short or odd is refused by 21
abbrev pub frame_refusal : Frame → ℕ
frame_refusal (Whole kind start count next) = 0
frame_refusal End = 0
frame_refusal Cut = 21
frame_refusal Odd = 21
