-- Bytes and what stands in them, answers and their text: cases of document 01 and at its limits.
use Prim.Native.Nat.{ℕ}
use mathlib.Core.Path.{◌≡◌, refl}
use mathlib.Core.List.{List, [], ◌∷◌, ◌++◌, map}
use lib.ListN.{replicate}
use Rattle.base.specs.Kinds.{nodes_of}
use Rattle.base.specs.Outcome.{refused, given}
use Rattle.records.specs.Wire.{number, low_bytes, id_bytes}
use Rattle.records.specs.Frame.{frame_at, frame_refusal, odd_length}
use Rattle.records.specs.Text.{places, places_in, spelled, decimal, spaced, line, simplex_lines, record_text, end_text}
use Rattle.records.specs.declared.frame.Frame.{Frame}
use Rattle.records.specs.declared.frame.Frame.TheVariants.{Whole, End, Cut, Odd}

-- bytes, what stands at their front, and its number
pub record Framed : Type 0 where
  pub bytes : List ℕ
  pub frame : Frame
  pub refusal : ℕ

abbrev is : List ℕ → Frame → ℕ → Framed
is bytes frame refusal = record { bytes = bytes; frame = frame; refusal = refusal }

-- a length alone, and a length with so many bytes behind it
abbrev length4 : ℕ → List ℕ
length4 len = low_bytes 4 len

abbrev before : ℕ → ℕ → List ℕ
before len behind = low_bytes 4 len ++ replicate behind 0

abbrev pub framed : List Framed
framed =
    -- the clean end, and a length that is cut short
    is [] End 0
    ∷ is (2 ∷ []) Cut 21
    ∷ is (2 ∷ 0 ∷ 0 ∷ []) Cut 21
    -- lengths that no record has, whatever is behind them
    ∷ is (before 0 8) Odd 21
    ∷ is (before 1 8) Odd 21
    ∷ is (before 3 8) Odd 21
    ∷ is (length4 32771) Odd 21
    ∷ is (length4 32778) Odd 21
    ∷ is (length4 4294967295) Odd 21
    -- lengths that a record may have, and their bytes missing
    ∷ is (length4 2) Cut 21
    ∷ is (before 2 1) Cut 21
    ∷ is (before 10 9) Cut 21
    ∷ is (length4 32770) Cut 21
    -- whole records: an empty PHED, and the wedge of the example with that PHED behind it
    ∷ is (2 ∷ 0 ∷ 0 ∷ 0 ∷ 19 ∷ 0 ∷ []) (Whole 19 6 0 6) 0
    ∷ is (low_bytes 4 50 ++ (low_bytes 2 13 ++ (id_bytes (10 ∷ 8 ∷ 7 ∷ 9 ∷ 11 ∷ 12 ∷ []) ++ (2 ∷ 0 ∷ 0 ∷ 0 ∷ 19 ∷ 0 ∷ []))))
    (Whole 13 6 6 54) 0
    ∷ []

abbrev judged : Framed → Framed
judged f = is f.bytes (frame_at f.bytes 0) (frame_refusal (frame_at f.bytes 0))

pub framed_hold : map judged framed ≡ framed
unfolding frame_at odd_length number low_bytes id_bytes
framed_hold = refl

-- the example's text: "0 0 3", three lines, "1 6 0", "end 2"
pub example_text :
    record_text 0 (given 11 3) (7 ∷ 9 ∷ 11 ∷ 12 ∷ 7 ∷ 11 ∷ 9 ∷ 8 ∷ 7 ∷ 8 ∷ 9 ∷ 10 ∷ [])
    ++ (record_text 1 (refused 6) [] ++ end_text 2)
    ≡ 48 ∷ 32 ∷ 48 ∷ 32 ∷ 51 ∷ 10
    ∷ 49 ∷ 49 ∷ 32 ∷ 55 ∷ 32 ∷ 57 ∷ 32 ∷ 49 ∷ 49 ∷ 32 ∷ 49 ∷ 50 ∷ 10
    ∷ 49 ∷ 49 ∷ 32 ∷ 55 ∷ 32 ∷ 49 ∷ 49 ∷ 32 ∷ 57 ∷ 32 ∷ 56 ∷ 10
    ∷ 49 ∷ 49 ∷ 32 ∷ 55 ∷ 32 ∷ 56 ∷ 32 ∷ 57 ∷ 32 ∷ 49 ∷ 48 ∷ 10
    ∷ 49 ∷ 32 ∷ 54 ∷ 32 ∷ 48 ∷ 10
    ∷ 101 ∷ 110 ∷ 100 ∷ 32 ∷ 50 ∷ 10
    ∷ []
unfolding record_text end_text line simplex_lines spaced decimal spelled places places_in nodes_of
example_text = refl

-- the greatest number of 64 bits has twenty digits
pub longest_number :
    decimal 18446744073709551615
    ≡ 49 ∷ 56 ∷ 52 ∷ 52 ∷ 54 ∷ 55 ∷ 52 ∷ 52 ∷ 48 ∷ 55 ∷ 51 ∷ 55 ∷ 48 ∷ 57 ∷ 53 ∷ 53 ∷ 49 ∷ 54 ∷ 49 ∷ 53 ∷ []
unfolding decimal spelled places places_in
longest_number = refl
