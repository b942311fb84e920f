-- Whole numbers as floats: what `Means x z` says, and that binary64's operations on such floats are exact up to 2 ^ 53.
use Rattle.std.proofs.Common.{◌≡◌, ℕ, zero, suc, ◌+◌, ◌-◌, ◌*◌, ◌^◌, ◌<◌, ◌≤◌, Bool, true, false, cond, not, T, ltb, ◌⊎◌, ℤ, pos, ◌+ℤ◌, ◌-ℤ◌, ◌*ℤ◌, neg_ℤ, nat_abs, sym, refl, ap, ◌∙◌, subst, ap₂, inl, inr, true≢false, le_trans, le_of_eq, lt_of_lt_of_le, le_of_lt, zero-lt-suc, mul_assoc, mul_comm, add-mul, lt_of_mul-lt-mul_right, eq-or-lt_of_le, mul-pos, mul-zero, zero-mul, mul-one, sub-add_cancel, le_of_mul-le-mul_right, sub-eq-zero_of_le, arith, lit<, lit≤, ltb→lt, nltb→le, shl_lt, le-ltb, lt-ltb}
use native.Mathlib.Nat.{mul-mul-mul_comm, mul-sub}
use mathlib.Core.Bool.{false≢true}
use lib.IntN.{+ℤ_comm, +ℤ-neg_ℤ_cancel, neg_ℤ-+ℤ, neg_ℤ-neg_ℤ}
use lib.Dec.{leb-suc-zero}
use lib.Ieee.{Float, nan, inf, fin, binary64, up, down, unlike, round, neg, sum, add, sub, mul, div, lt}
use lib.Ieee.Fits.{down_pos}
use lib.Ieee.Exact.{HasValue, round_exact}
use lib.Ieee.Scale.{round_same}
use lib.Ieee.Back.{round_whole}
use Rattle.winding.specs.Plane.{zero64, two64}
use Rattle.winding.specs.Exact.{negative}

-- n with the sign s
abbrev pub signed : Bool → ℕ → ℤ
signed false n = pos n
signed true n = neg_ℤ (pos n)

-- x is finite and is the whole number z. Both zeros are 0.
pub record Means (x : Float) (z : ℤ) : Type 0 where
  pub sign : Bool
  pub size : ℕ
  pub value : HasValue x sign size 1
  pub is : signed sign size ≡ z

-- ---- signed numbers

size_of : (s : Bool) (n : ℕ) → nat_abs (signed s n) ≡ n
size_of false n = refl
size_of true zero = refl
size_of true (suc n) = refl

sign_off : (s : Bool) (n : ℕ) → signed (not s) n ≡ neg_ℤ (signed s n)
sign_off false n = refl
sign_off true n = sym (neg_ℤ-neg_ℤ (pos n))

same_sign : (s : Bool) (a b : ℕ) → signed s (a + b) ≡ signed s a +ℤ signed s b
same_sign false a b = refl
same_sign true a b = neg_ℤ-+ℤ (pos a) (pos b)

less : (a b : ℕ) → b ≤ a → pos (a - b) ≡ pos a +ℤ neg_ℤ (pos b)
less a b h = sym (+ℤ-neg_ℤ_cancel (pos (a - b)) (pos b)) ∙ ap (λ (n : ℕ). pos n +ℤ neg_ℤ (pos b)) (sub-add_cancel h)

more : (a b : ℕ) → a ≤ b → neg_ℤ (pos (b - a)) ≡ pos a +ℤ neg_ℤ (pos b)
more a b h =
    ap neg_ℤ (less b a h) ∙ neg_ℤ-+ℤ (pos b) (neg_ℤ (pos a)) ∙ ap (λ (z : ℤ). neg_ℤ (pos b) +ℤ z) (neg_ℤ-neg_ℤ (pos a))
    ∙ +ℤ_comm (neg_ℤ (pos b)) (pos a)

none_left : (u : Bool) (n : ℕ) → (T (not u) → n ≡ 0) → signed u n ≡ neg_ℤ (pos n)
none_left true n h = refl
none_left false n h = ap pos (h tt) ∙ ap (λ (k : ℕ). neg_ℤ (pos k)) (sym (h tt))

product_sign : (s t : Bool) (a b : ℕ) → signed (unlike s t) (a * b) ≡ signed s a *ℤ signed t b
product_sign false false a b = refl
product_sign false true a zero = ap (λ (n : ℕ). neg_ℤ (pos n)) (mul-zero a) ∙ ap pos (sym (mul-zero a))
product_sign false true a (suc b) = refl
product_sign true false zero b = ap (λ (n : ℕ). neg_ℤ (pos n)) (zero-mul b) ∙ ap pos (sym (zero-mul b))
product_sign true false (suc a) b = refl
product_sign true true zero zero = refl
product_sign true true zero (suc b) = ap pos (zero-mul (suc b)) ∙ ap (λ (n : ℕ). neg_ℤ (pos n)) (sym (zero-mul (suc b)))
product_sign true true (suc a) zero = ap pos (mul-zero (suc a)) ∙ ap (λ (n : ℕ). neg_ℤ (pos n)) (sym (mul-zero (suc a)))
product_sign true true (suc a) (suc b) = refl

-- ---- a fraction that is a whole number is rounded to it

made : (s : Bool) (n c : ℕ) (x : Float) (z : ℤ) → 0 < c → x ≡ round binary64 s (n * c) c → signed s n ≡ z → nat_abs z ≤ 2 ^ 53
    → Means x z
made s n c x z p e is h = record {
  sign = s;
  size = n;
  value =
      subst (λ (y : Float). HasValue y s n 1) (sym (e ∙ round_same binary64 s (n * c) c n 1 p (zero-lt-suc 0) (mul-one (n * c))))
      (round_whole binary64 s n (le_trans (le_of_eq (sym (size_of s n) ∙ ap nat_abs is)) h));
  is = is;
}

-- ---- the sum

sub-mul : (a b c : ℕ) → a * c - b * c ≡ (a - b) * c
sub-mul a b c = ap₂ (λ (x y : ℕ). x - y) (mul_comm a c) (mul_comm b c) ∙ sym (mul-sub c a b) ∙ mul_comm c (a - b)

sum_means : (s t : Bool) (a b c : ℕ) → 0 < c → nat_abs (signed s a +ℤ signed t b) ≤ 2 ^ 53
    → Means (sum binary64 s (a * c) t (b * c) c) (signed s a +ℤ signed t b)
unfolding sum
sum_means false false a b c p h =
    made false (a + b) c _ _ p (ap (λ (n : ℕ). round binary64 false n c) (sym (add-mul a b c))) (same_sign false a b) h
sum_means true true a b c p h =
    made true (a + b) c _ _ p (ap (λ (n : ℕ). round binary64 true n c) (sym (add-mul a b c))) (same_sign true a b) h
sum_means false true a b c p h = go (ltb (a * c) (b * c)) (ltb→lt (a * c) (b * c)) (nltb→le (a * c) (b * c))
  where
    go : (u : Bool) → (T u → a * c < b * c) → (T (not u) → b * c ≤ a * c)
        → Means (cond u (round binary64 true (b * c - a * c) c) (round binary64 false (a * c - b * c) c)) (pos a +ℤ neg_ℤ (pos b))
    go true l g =
        made true (b - a) c _ _ p (ap (λ (n : ℕ). round binary64 true n c) (sub-mul b a c)) (more a b (le_of_lt (lt_of_mul-lt-mul_right c (l tt)))) h
    go false l g =
        made false (a - b) c _ _ p (ap (λ (n : ℕ). round binary64 false n c) (sub-mul a b c)) (less a b (le_of_mul-le-mul_right (g tt) p)) h
sum_means true false a b c p h = go (ltb (a * c) (b * c)) (ltb→lt (a * c) (b * c)) (nltb→le (a * c) (b * c))
  where
    go : (u : Bool) → (T u → a * c < b * c) → (T (not u) → b * c ≤ a * c)
        → Means (cond u (round binary64 false (b * c - a * c) c) (round binary64 (ltb (b * c) (a * c)) (a * c - b * c) c)) (neg_ℤ (pos a) +ℤ pos b)
    go true l g =
        made false (b - a) c _ _ p (ap (λ (n : ℕ). round binary64 false n c) (sub-mul b a c))
        (less b a (le_of_lt (lt_of_mul-lt-mul_right c (l tt))) ∙ +ℤ_comm (pos b) (neg_ℤ (pos a))) h
    go false l g =
        made (ltb (b * c) (a * c)) (a - b) c _ _ p (ap (λ (n : ℕ). round binary64 (ltb (b * c) (a * c)) n c) (sub-mul a b c))
        (none_left (ltb (b * c) (a * c)) (a - b) (λ f. sub-eq-zero_of_le (le_of_mul-le-mul_right (nltb→le (b * c) (a * c) f) p))
        ∙ more b a (le_of_mul-le-mul_right (g tt) p)
        ∙ +ℤ_comm (pos b) (neg_ℤ (pos a))) h

-- m / e is a, so m * g is a times e * g
over : (m e a g : ℕ) → m * 1 ≡ a * e → m * g ≡ a * (e * g)
over m e a g h = ap (λ (n : ℕ). n * g) (sym (mul-one m) ∙ h) ∙ mul_assoc a e g

pub add_means : (x y : Float) (a b : ℤ) → Means x a → Means y b → nat_abs (a +ℤ b) ≤ 2 ^ 53 → Means (add binary64 x y) (a +ℤ b)
unfolding add
add_means nan y a b p q h = absurd p.value
add_means (inf s) y a b p q h = absurd p.value
add_means (fin s m e) nan a b p q h = absurd q.value
add_means (fin s m e) (inf t) a b p q h = absurd q.value
add_means (fin s m e) (fin t n d) a b p q h =
    let c = down e * down d in
    subst (λ (z : ℤ). Means (sum binary64 s (m * up e * down d) t (n * up d * down e) c) z) is
    (subst (λ (k : ℕ). Means (sum binary64 s k t (n * up d * down e) c) here) (sym (over (m * up e) (down e) p.size (down d) p.value.1))
    (subst (λ (k : ℕ). Means (sum binary64 s (p.size * c) t k c) here)
    (sym (over (n * up d) (down d) q.size (down e) q.value.1 ∙ ap (λ (k : ℕ). q.size * k) (mul_comm (down d) (down e))))
    (sum_means s t p.size q.size c (mul-pos (down_pos e) (down_pos d)) (subst (λ (z : ℤ). nat_abs z ≤ 2 ^ 53) (sym is) h))))
  where
    here : ℤ
    here = signed s p.size +ℤ signed t q.size

    is : signed s p.size +ℤ signed t q.size ≡ a +ℤ b
    is =
        ap₂ (λ (y z : ℤ). y +ℤ z) (ap (λ (u : Bool). signed u p.size) p.value.0 ∙ p.is)
        (ap (λ (u : Bool). signed u q.size) q.value.0 ∙ q.is)

-- ---- negation, difference, product

pub neg_means : (x : Float) (a : ℤ) → Means x a → Means (neg x) (neg_ℤ a)
unfolding neg
neg_means nan a p = absurd p.value
neg_means (inf s) a p = absurd p.value
neg_means (fin s m e) a p =
    record {
      sign =
          not p.sign;
      size = p.size;
      value = (ap not p.value.0, p.value.1);
      is = sign_off p.sign p.size
          ∙ ap neg_ℤ p.is;
    }

pub sub_means : (x y : Float) (a b : ℤ) → Means x a → Means y b → nat_abs (a -ℤ b) ≤ 2 ^ 53 → Means (sub binary64 x y) (a -ℤ b)
unfolding sub
sub_means x y a b p q h = add_means x (neg y) a (neg_ℤ b) p (neg_means y b q) h

pub mul_means : (x y : Float) (a b : ℤ) → Means x a → Means y b → nat_abs (a *ℤ b) ≤ 2 ^ 53 → Means (mul binary64 x y) (a *ℤ b)
unfolding mul
mul_means nan y a b p q h = absurd p.value
mul_means (inf s) y a b p q h = absurd p.value
mul_means (fin s m e) nan a b p q h = absurd q.value
mul_means (fin s m e) (inf t) a b p q h = absurd q.value
mul_means (fin s m e) (fin t n d) a b p q h =
    made (unlike s t) (p.size * q.size) (down e * down d) _ _ (mul-pos (down_pos e) (down_pos d))
    (ap (λ (k : ℕ). round binary64 (unlike s t) k (down e * down d))
    (ap₂ (λ (k l : ℕ). k * l) (sym (mul-one (m * up e)) ∙ p.value.1) (sym (mul-one (n * up d)) ∙ q.value.1)
    ∙ mul-mul-mul_comm p.size (down e) q.size (down d)))
    (product_sign s t p.size q.size
    ∙ ap₂ (λ (y z : ℤ). y *ℤ z) (ap (λ (u : Bool). signed u p.size) p.value.0 ∙ p.is)
    (ap (λ (u : Bool). signed u q.size) q.value.0 ∙ q.is))
    h

-- ---- half of a whole number is exact too, and is below zero where the number is

pub zero_means : Means zero64 (pos 0)
zero_means = record { sign = false; size = 0; value = (refl, refl); is = refl }

half_small : (s : Bool) (n : ℕ) → n < 2 ^ 53 → HasValue (round binary64 s n 2) s n 2
half_small s n h = round_exact binary64 s n 2 n 1073 (zero-lt-suc 1) h (small n h) (sym (mul_assoc n (2 ^ 1073) 2))
  where
    small : (n : ℕ) → n < 2 ^ 53 → n * 2 ^ 1073 < 2 ^ (1074 + 1024)
    small n h = lt_of_lt_of_le (shl_lt 53 1073 h) (lit≤ tt)

half_top : (s : Bool) → HasValue (round binary64 s (2 ^ 53) 2) s (2 ^ 53) 2
half_top s = round_exact binary64 s (2 ^ 53) 2 1 1126 (zero-lt-suc 1) (lit< tt) (lit< tt) refl

half_of : (s : Bool) (n : ℕ) → n ≤ 2 ^ 53 → HasValue (round binary64 s n 2) s n 2
half_of s n h = go (eq-or-lt_of_le h)
  where
    go : (n ≡ 2 ^ 53) ⊎ (n < 2 ^ 53) → HasValue (round binary64 s n 2) s n 2
    go (inl e) = subst (λ (k : ℕ). HasValue (round binary64 s k 2) s k 2) (sym e) (half_top s)
    go (inr l) = half_small s n l

at : (s : Bool) (m : ℕ) (e : ℤ) (n : ℕ) → m * up e * 1 ≡ n * down e → n ≤ 2 ^ 53
    → HasValue (round binary64 s (m * up e * 1) (2 * down e)) s n 2
at s m e n h l =
    subst (λ (y : Float). HasValue y s n 2)
    (sym (round_same binary64 s (m * up e * 1) (2 * down e) n 2 (mul-pos (zero-lt-suc 1) (down_pos e)) (zero-lt-suc 1)
    (ap (λ (k : ℕ). k * 2) h ∙ mul_assoc n (down e) 2 ∙ ap (λ (k : ℕ). n * k) (mul_comm (down e) 2))))
    (half_of s n l)

half_value : (s : Bool) (m : ℕ) (e : ℤ) (n : ℕ) → m * up e * 1 ≡ n * down e → n ≤ 2 ^ 53
    → HasValue (div binary64 (fin s m e) two64) s n 2
unfolding div
half_value true m e n h l = at true m e n h l
half_value false m e n h l = at false m e n h l

-- with x / e at n / 2: x is 0 where n is, and above 0 where n is
half_zero : (x e : ℕ) → x * 2 ≡ 0 * e → x * 1 + 0 * e ≤ 0
half_zero x e h = let z : 0 * e ≡ 0 = zero-mul e in omega arith

half_pos : (x e n : ℕ) → 0 < e → x * 2 ≡ suc n * e → 0 < x * 1 + 0 * e
half_pos x e n d h = let p : 0 < suc n * e = mul-pos (zero-lt-suc n) d in omega arith

lt-zero : (x : Float) (s : Bool) (n : ℕ) → HasValue x s n 2 → lt x zero64 ≡ negative (signed s n)
unfolding lt
lt-zero nan s n h = absurd h
lt-zero (inf t) s n h = absurd h
lt-zero (fin true m e) false n h = absurd (true≢false h.0)
lt-zero (fin false m e) true n h = absurd (false≢true h.0)
lt-zero (fin false m e) false n h = ap (λ (k : ℕ). ltb (m * up e * 1) k) (zero-mul (down e)) ∙ leb-suc-zero (m * up e * 1)
lt-zero (fin true m e) true zero h = le-ltb 0 (m * up e * 1 + 0 * down e) (half_zero (m * up e) (down e) h.1)
lt-zero (fin true m e) true (suc n) h = lt-ltb 0 (m * up e * 1 + 0 * down e) (half_pos (m * up e) (down e) n (down_pos e) h.1)

size_le : {x : Float} {z : ℤ} (p : Means x z) → nat_abs z ≤ 2 ^ 53 → p.size ≤ 2 ^ 53
size_le p h = le_trans (le_of_eq (sym (size_of p.sign p.size) ∙ ap nat_abs p.is)) h

pub half_negative : (x : Float) (z : ℤ) → Means x z → nat_abs z ≤ 2 ^ 53 → lt (div binary64 x two64) zero64 ≡ negative z
half_negative nan z p h = absurd p.value
half_negative (inf s) z p h = absurd p.value
half_negative (fin s m e) z p h =
    lt-zero (div binary64 (fin s m e) two64) s p.size (half_value s m e p.size p.value.1 (size_le p h))
    ∙ ap (λ (u : Bool). negative (signed u p.size)) p.value.0 ∙ ap negative p.is
