-- What is known of the record that comes next, and of the bytes in hand.
use Rattle.std.specs.Prelude.{ℕ, ◌≡◌, List, length, slice_range, take}
use Rattle.records.specs.Frame.{frame_at}
use Rattle.records.specs.declared.frame.Frame.{Frame}
use Rattle.records.specs.declared.frame.Frame.TheVariants.{Whole, End, Cut, Odd}
use Rattle.split.specs.declared.input.Input.{Input}

-- a whole record stands at the bytes in hand
abbrev pub InHand : Input → Frame → Type 0
InHand input (Whole kind start count next) = frame_at (take input.to input.bytes.now) input.from ≡ Whole kind start count next
InHand input End = Unit {0}
InHand input Cut = Unit {0}
InHand input Odd = Unit {0}

-- the bytes that are read and not used yet
abbrev pub hand : Input → List ℕ
hand input = slice_range input.bytes.now input.from input.to

-- the bytes in hand stay, whatever more come behind them
abbrev pub Kept : Input → Input → Type 0
Kept before after = take (length (hand before)) (hand after) ≡ hand before
