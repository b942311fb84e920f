-- `space::size` meets its contract: by cases on the float, with what the two tests found.
use Rattle.std.proofs.Common.{◌≡◌, ℕ, zero, suc, ◌+◌, ◌*◌, ◌<◌, ◌≤◌, Bool, true, false, ◌&&◌, ℤ, pos, sym, refl, ◌∙◌, ap₂, true≢false, zero-lt-suc, mul-pos, zero-mul, arith, ltb-false, ltb-true, eqb-true}
use mathlib.Core.Bool.{false≢true}
use lib.Ieee.{Float, nan, inf, fin, up, down, neg, eq, lt, level, of_bits}
use lib.Ieee.Fits.{up_pos}
use Rattle.winding.specs.Space.{size_of}
use Rattle.winding.proofs.space.size.Goals as goal

abbrev 𝟘 : Float
𝟘 = fin false 0 (pos 0)

level_zero : (s : Bool) → level s 0 false 0 ≡ true
level_zero true = refl
level_zero false = refl

zero_equal : (s : Bool) (e : ℤ) → eq (fin s zero e) 𝟘 ≡ true
unfolding eq
zero_equal s e = ap₂ (λ (a b : ℕ). level s (a * 1) false b) (zero-mul (up e)) (zero-mul (down e)) ∙ level_zero s

above : (m : ℕ) (e : ℤ) → 0 < suc m * up e
above m e = mul-pos (zero-lt-suc m) (up_pos e)

both_true : (a b : Bool) → a && b ≡ true → a ≡ true
both_true true b h = refl
both_true false b h = h

no_equal : (s : Bool) (m : ℕ) (e : ℤ) → eq (fin s (suc m) e) 𝟘 ≡ true → ⊥
unfolding eq
no_equal s m e h =
    let z = eqb-true (suc m * up e * 1) (0 * down e) (both_true _ _ h) in
    let w = zero-mul (down e) in
    let p = above m e in
    omega arith

no_below : (x d : ℕ) → x < 0 * d → ⊥
no_below x d h = let w = zero-mul d in omega arith

no_left : (x d : ℕ) → 0 < x → x * 1 + 0 * d ≤ 0 → ⊥
no_left x d p h = omega arith

size_zero : (x : Float) → eq x 𝟘 ≡ true → 𝟘 ≡ size_of x
size_zero nan h = unfold eq in absurd (false≢true h)
size_zero (inf s) h = unfold eq in absurd (false≢true h)
size_zero (fin s zero e) h = refl
size_zero (fin s (suc m) e) h = absurd (no_equal s m e h)

size_below : (x : Float) → eq x 𝟘 ≡ false → lt x 𝟘 ≡ true → neg x ≡ size_of x
unfolding lt neg
size_below nan h l = absurd (false≢true l)
size_below (inf true) h l = refl
size_below (inf false) h l = absurd (false≢true l)
size_below (fin s zero e) h l = absurd (true≢false (sym (zero_equal s e) ∙ h))
size_below (fin true (suc m) e) h l = refl
size_below (fin false (suc m) e) h l = absurd (no_below (suc m * up e * 1) (down e) (ltb-true _ _ l))

size_above : (x : Float) → eq x 𝟘 ≡ false → lt x 𝟘 ≡ false → x ≡ size_of x
unfolding lt
size_above nan h l = refl
size_above (inf true) h l = absurd (true≢false l)
size_above (inf false) h l = refl
size_above (fin s zero e) h l = absurd (true≢false (sym (zero_equal s e) ∙ h))
size_above (fin true (suc m) e) h l = absurd (no_left (suc m * up e) (down e) (above m e) (ltb-false _ _ l))
size_above (fin false (suc m) e) h l = refl

pub returns-then-x : goal.returns-then-x
unfolding of_bits
returns-then-x c = size_zero c.args.x c.if-x.true

pub returns-then-x-2 : goal.returns-then-x-2
unfolding of_bits
returns-then-x-2 c = size_below c.args.x c.if-x.false c.if-x-2.true

pub returns-else-x-2 : goal.returns-else-x-2
unfolding of_bits
returns-else-x-2 c = size_above c.args.x c.if-x.false c.if-x-2.false
