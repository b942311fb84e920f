-- Laws of numbers as digits: how many there are, how they are spelled, and that they stand for the number.
use mathlib.Core.Path.{◌≡◌, refl, ap}
use Prim.Native.Nat.{ℕ, zero, suc, ◌+◌, ◌-◌, ◌*◌, ◌/◌, ◌%◌, ◌^◌, ◌<◌, ◌≤◌}
use native.Mathlib.Nat.{pow-succ', one-le-pow, le_of_suc-le-suc, not-suc-le-zero}
use native.Mathlib.Omega.{arith}
use mathlib.Core.List.{List, [], ◌∷◌, ◌++◌, map-append, append_assoc}
use Rattle.std.proofs.lemmas.List.{drop-set}
use native.Mathlib.Numerals.{add-one}
use lib.Dec.{ltb}
use lib.ListN.{length, set, drop, length-append}
use borrow.Author.Tests.{lt-ltb, le-ltb, ltb-true}
use Rattle.base.specs.Gather.{digits}
use Rattle.records.specs.Text.{places_in, places, spelled, decimal}
use Rattle.records.proofs.Tests.{by_test}

-- a number that reaches the power of ten `k` and not the next has k + 1 digits
places_in_lem : (f k n : ℕ) → k < f → (0 < k → 10 ^ k ≤ n) → n < 10 ^ suc k → places_in f n ≡ suc k
unfolding places_in
places_in_lem zero k n h low high = absurd (not-suc-le-zero h)
places_in_lem (suc f) zero n h low high = rw (lt-ltb n 10 high)
places_in_lem (suc f) (suc k) n h low high =
    let e = pow-succ' 10 k in
    let g = pow-succ' 10 (suc k) in
    let p : 1 ≤ 10 ^ k = one-le-pow k 10 (omega arith) in
    let reached : 10 ^ suc k ≤ n = low (omega arith) in
    let ten : 10 ≤ n = omega arith in
    rw (le-ltb n 10 ten) (ap suc (places_in_lem f k (n / 10) (le_of_suc-le-suc h) (λ _. omega arith) (omega arith)))

pub places-by_power : (k n : ℕ) → k < 20 → (0 < k → 10 ^ k ≤ n) → n < 10 ^ suc k → places n ≡ suc k
unfolding places
places-by_power k n h low high = places_in_lem 20 k n h low high

pub spelled_more : (k n : ℕ) → spelled (suc k) n ≡ spelled k (n / 10) ++ ((48 + n % 10) ∷ [])
unfolding spelled
spelled_more k n = map-append _ (digits k (n / 10)) _

pub length-spelled : (k n : ℕ) → length (spelled k n) ≡ k
unfolding spelled
length-spelled zero n = refl
length-spelled (suc k) n = rw (spelled_more, length-append (spelled k (n / 10)), length-spelled k (n / 10)) (omega arith)

-- a turn of the loop that spells a number from its last digit on
pub spell_turn : (k n : ℕ) (out : List ℕ) → k < length out
    → spelled k (n / 10) ++ drop k (set out k (48 + n % 10)) ≡ spelled (suc k) n ++ drop (suc k) out
spell_turn k n out h = rw (spelled_more k n, drop-set out k (48 + n % 10) h, append_assoc, add-one)

-- the number that digits stand for
abbrev pub value : ℕ → List ℕ → ℕ
value high [] = high
value high (d ∷ ds) = value (10 * high + (d - 48)) ds

value_append : (high : ℕ) (xs ys : List ℕ) → value high (xs ++ ys) ≡ value (value high xs) ys
value_append high [] ys = refl
value_append high (x ∷ xs) ys = value_append (10 * high + (x - 48)) xs ys

value_spelled : (k n : ℕ) → n < 10 ^ k → value 0 (spelled k n) ≡ n
unfolding spelled
value_spelled zero n h = omega (arith, h)
value_spelled (suc k) n h =
    let p = pow-succ' 10 k in
    let v = value_spelled k (n / 10) (omega arith) in
    rw (spelled_more k n, value_append 0 (spelled k (n / 10)) ((48 + n % 10) ∷ []), v) (omega arith)

places_hold : (k n : ℕ) → n < 10 ^ k → n < 10 ^ places_in k n
unfolding places_in
places_hold zero n h = h
places_hold (suc k) n h =
    by_test (λ m. n < 10 ^ m) (ltb n 10) (λ t. ltb-true n 10 t)
    (λ t.
    let p = pow-succ' 10 k in
    let q = pow-succ' 10 (places_in k (n / 10)) in
    let r = places_hold k (n / 10) (omega arith) in
    omega arith)

-- a number of 64 bits in decimal stands for that number
pub decimal_value : (n : ℕ) → n < 18446744073709551616 → value 0 (decimal n) ≡ n
unfolding decimal places
decimal_value n h = value_spelled (places_in 20 n) n (places_hold 20 n (omega arith))
