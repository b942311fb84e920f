-- What holds of a length that a record has, where a whole record stands, and that more bytes behind it change nothing.
use mathlib.Core.Path.{◌≡◌, subst}
use mathlib.Core.Bool.{false}
use mathlib.Core.List.{List, ◌++◌}
use Prim.Native.Nat.{ℕ, ◌+◌, ◌-◌, ◌*◌, ◌%◌, ◌≤◌}
use native.Mathlib.Omega.{arith}
use lib.Dec.{eqb, ltb}
use lib.ListN.{length, drop, length-append, length-drop}
use lib.Seq.{take-append-le, drop-append-le}
use borrow.Author.Tests.{ltb-false, le-ltb, eqb-true, ne_eqb, not-false}
use Rattle.records.specs.Frame.{odd_length, frame_at}
use Rattle.records.specs.Wire.{number_at}
use Rattle.records.specs.declared.frame.Frame.{Frame}
use Rattle.records.specs.declared.frame.Frame.TheVariants.{Whole, End, Cut, Odd}
use Rattle.records.proofs.Tests.{by_test, neither}

pub record Fitting (len : ℕ) : Type 0 where
  pub kinded : 2 ≤ len
  pub short : len ≤ 32770
  pub whole : (len - 2) % 8 ≡ 0

pub fitting : (len : ℕ) → odd_length len ≡ false → Fitting len
unfolding odd_length
fitting len h =
    let s = neither (ltb len 2) _ h in
    let t = neither (ltb 32770 len) _ s.1 in
    record { kinded = ltb-false _ _ s.0; short = ltb-false _ _ t.0; whole = eqb-true _ _ (not-false _ t.1) }

-- the ids of a whole record: bytes among those in hand, in eights, and at most 4,096
pub record Stands (size start count next : ℕ) : Type 0 where
  pub eights : next ≡ start + 8 * count
  pub within : next ≤ size
  pub few : count ≤ 4096

abbrev StandsIf : ℕ → Frame → Type 0
StandsIf size (Whole kind start count next) = Stands size start count next
StandsIf size End = Unit {0}
StandsIf size Cut = Unit {0}
StandsIf size Odd = Unit {0}

stands_if : (bytes : List ℕ) (at : ℕ) → StandsIf (length bytes) (frame_at bytes at)
unfolding frame_at
stands_if bytes at =
    let have = length bytes - at in
    let len = number_at 4 bytes at in
    let P = StandsIf (length bytes) in
    by_test P (eqb have 0) (λ _. tt)
    (λ e. by_test P (ltb have 4) (λ _. tt)
    (λ f. by_test P (odd_length len) (λ _. tt)
    (λ o. by_test P (ltb have (4 + len)) (λ _. tt)
    (λ g.
    let l = fitting len o in
    let n = ltb-false have (4 + len) g in
    let m = ltb-false have 4 f in
    record { eights = omega arith; within = omega arith; few = omega arith }))))

pub stands : (bytes : List ℕ) (at kind start count next : ℕ) → frame_at bytes at ≡ Whole kind start count next
    → Stands (length bytes) start count next
stands bytes at kind start count next e = subst (StandsIf (length bytes)) e (stands_if bytes at)

-- a number in hand does not depend on what comes behind
number_stays : (n : ℕ) (bytes more : List ℕ) (at : ℕ) → at + n ≤ length bytes → number_at n (bytes ++ more) at ≡ number_at n bytes at
number_stays n bytes more at h =
    let k : n ≤ length (drop at bytes) = rw length-drop (omega arith) in
    rw (drop-append-le at bytes more (omega arith), take-append-le n (drop at bytes) more k)

-- the verdict on bytes in hand is that on the whole input, save where it waits for more
abbrev Settled : Frame → Type 0
Settled (Whole kind start count next) = Unit {0}
Settled End = ⊥
Settled Cut = ⊥
Settled Odd = Unit {0}

pub frame_stays : (bytes more : List ℕ) (at : ℕ) → Settled (frame_at bytes at) → frame_at (bytes ++ more) at ≡ frame_at bytes at
unfolding frame_at
frame_stays bytes more at =
    let have = length bytes - at in
    let len = number_at 4 bytes at in
    let longer = length-append bytes more in
    let P : Frame → Type 0 = λ f. (Settled f → frame_at (bytes ++ more) at ≡ f) in
    by_test P (eqb have 0) (λ _ s. absurd s)
    (λ e. by_test P (ltb have 4) (λ _ s. absurd s)
    (λ f. let m = ltb-false have 4 f in by_test P (odd_length len)
    (λ o _. simp (
      ne_eqb (length (bytes ++ more) - at) 0 (omega arith),
      le-ltb (length (bytes ++ more) - at) 4 (omega arith),
      number_stays 4 bytes more at (omega arith),
      o,
    ))
    (λ o. by_test P (ltb have (4 + len)) (λ _ s. absurd s)
    (λ g _.
    let n = ltb-false have (4 + len) g in
    let l = fitting len o in
    simp (
      ne_eqb (length (bytes ++ more) - at) 0 (omega arith),
      le-ltb (length (bytes ++ more) - at) 4 (omega arith),
      number_stays 4 bytes more at (omega arith),
      o,
      le-ltb (length (bytes ++ more) - at) (4 + len) (omega arith),
      number_stays 2 bytes more (at + 4) (omega arith),
    )))))
