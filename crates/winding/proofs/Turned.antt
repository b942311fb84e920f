-- Laws of a list as it is or back to front.
use Rattle.std.proofs.Common.{◌≡◌, ℕ, suc, ◌+◌, ◌-◌, ◌%◌, ◌^◌, ◌<◌, Bool, true, false, cond, ◌⊎◌, List, [], ◌∷◌, ◌++◌, reverse, length, get_or, sym, refl, ap, ◌∙◌, inl, inr, le_of_suc-le-suc, mod-eq_of_lt, eq-or-lt_of_le, arith}
use mathlib.Core.List.{reverse-cons}
use native.Mathlib.Nat.{sub-zero, add-mod_right}
use lib.ListN.{length-reverse, get_or-append}
use lib.Seq.{get_or_at}
use Rattle.winding.specs.Turn.{turned}

pub length-turned : (b : Bool) (l : List ℕ) → length (turned b l) ≡ length l
length-turned true l = length-reverse l
length-turned false l = refl

get_d_reverse : (l : List ℕ) (i : ℕ) → i < length l → get_or (reverse l) i 0 ≡ get_or l (length l - 1 - i) 0
get_d_reverse [] i h = absurd (omega arith)
get_d_reverse (x ∷ xs) i h =
    ap (λ (l : List ℕ). get_or l i 0) (reverse-cons x xs) ∙ go (eq-or-lt_of_le (le_of_suc-le-suc h)) (get_d_reverse xs i)
  where
    last : (n i : ℕ) → i ≡ n → suc n - 1 - i ≡ 0
    last n i e = omega arith

    before : (n i : ℕ) → i < n → suc n - 1 - i ≡ suc (n - 1 - i)
    before n i h = omega arith

    go : (i ≡ length xs) ⊎ (i < length xs) → (i < length xs → get_or (reverse xs) i 0 ≡ get_or xs (length xs - 1 - i) 0)
        → get_or (reverse xs ++ (x ∷ [])) i 0 ≡ get_or (x ∷ xs) (suc (length xs) - 1 - i) 0
    go (inl e) ih =
        get_or_at (reverse xs) x [] 0 i (length-reverse xs ∙ sym e)
        ∙ sym (ap (λ (k : ℕ). get_or (x ∷ xs) k 0) (last (length xs) i e))
    go (inr l) ih =
        get_or-append (reverse xs) (x ∷ []) 0 i (omega (arith, length-reverse xs)) ∙ ih l
        ∙ sym (ap (λ (k : ℕ). get_or (x ∷ xs) k 0) (before (length xs) i l))

-- which entry is written first
pub source_start : (b : Bool) (n : ℕ) → cond b (n - 1) 0 ≡ cond b (n - 1 - 0) 0
source_start true n = sym (sub-zero (n - 1))
source_start false n = refl

-- the entry that is written at the next place, by a step that may wrap
pub source_step : (b : Bool) (n i : ℕ) → n < 2 ^ 64 → i + 1 < n
    → (cond b (n - 1 - i) i + cond b (2 ^ 64 - 1) 1) % 2 ^ 64 ≡ cond b (n - 1 - (i + 1)) (i + 1)
source_step true n i most h =
    let e : n - 1 - i + (2 ^ 64 - 1) ≡ n - 1 - (i + 1) + 2 ^ 64 = omega arith in
    rw e (add-mod_right (n - 1 - (i + 1)) (2 ^ 64) ∙ mod-eq_of_lt (omega arith))
source_step false n i most h = mod-eq_of_lt (omega arith)

-- the entry that is written at place i stands within the list
pub source_lt : (b : Bool) (n i : ℕ) → i < n → cond b (n - 1 - i) i < n
source_lt true n i h = omega arith
source_lt false n i h = h

-- and is the turned list's there
pub get_d_turned : (b : Bool) (l : List ℕ) (i : ℕ) → i < length l → get_or l (cond b (length l - 1 - i) i) 0 ≡ get_or (turned b l) i 0
get_d_turned true l i h = sym (get_d_reverse l i h)
get_d_turned false l i h = refl
