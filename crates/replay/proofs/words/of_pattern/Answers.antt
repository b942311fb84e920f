-- `of_pattern` meets its contract. A pattern is a NaN's exactly where it is above an infinity's, the sign left out.
use Rattle.std.proofs.Common.{◌≡◌, ℕ, ◌%◌, ◌<◌, ◌≤◌, Bool, true, false, not, T, sym, refl, ◌∙◌, subst, le-ltb, lt-ltb}
use mathlib.Core.Bool.{false≢true}
use lib.Ieee.{Float, nan, inf, fin, binary64, div, is_nan, nan_bits, of_bits}
use lib.Ieee.Bits.{nan_bits_is, nan_bits_above}
use Rattle.replay.proofs.words.of_pattern.Goals as goal

only_nan : (x : Float) → is_nan x ≡ true → x ≡ nan
unfolding is_nan
only_nan nan h = refl
only_nan (inf s) h = absurd (false≢true h)
only_nan (fin s m e) h = absurd (false≢true h)

made : div binary64 (of_bits binary64 0) (of_bits binary64 0) ≡ nan
unfolding of_bits div
made = refl

above_is_nan : (n : ℕ) → 0x7ff0_0000_0000_0000 < n % 0x8000_0000_0000_0000 → of_bits binary64 n ≡ nan
above_is_nan n h = only_nan (of_bits binary64 n) (sym (nan_bits_is binary64 n) ∙ nan_bits_above binary64 n ∙ lt-ltb _ _ h)

no_nan : (n : ℕ) → n % 0x8000_0000_0000_0000 ≤ 0x7ff0_0000_0000_0000 → nan_bits binary64 n ≡ false
no_nan n h = nan_bits_above binary64 n ∙ le-ltb _ _ h

pub float_from_bits-result : goal.float_from_bits-result
float_from_bits-result c = subst (λ (b : Bool). T (not b)) (sym (no_nan c.args.pattern c.if-pattern-gt9218868437227405312.false)) tt

pub returns-then-pattern-gt9218868437227405312 : goal.returns-then-pattern-gt9218868437227405312
returns-then-pattern-gt9218868437227405312 c = made ∙ sym (above_is_nan c.args.pattern c.if-pattern-gt9218868437227405312.true)
