-- Laws of numbers as bytes and of ids as runs of eight: the library's are those of the specs, and ids are read as they were
-- written.
use mathlib.Core.Path.{◌≡◌, refl, sym, ◌∙◌, ap}
use Prim.Native.Nat.{ℕ, zero, suc, ◌+◌, ◌-◌, ◌*◌, ◌/◌, ◌%◌, ◌^◌, ◌<◌, ◌≤◌}
use native.Mathlib.Nat.{mul_assoc, mul-zero, pow-succ', le_of_suc-le-suc, not-suc-le-zero}
use native.Mathlib.Numerals.{add-one}
use native.Mathlib.Omega.{arith}
use mathlib.Core.List.{List, [], ◌∷◌, ◌++◌, append_assoc, append-nil}
use lib.ListN.{length, get_or, take, drop, length-append, length-drop}
use lib.Seq.{drop-cons, drop-drop, take-suc, length-take-le, take_all, take_at, drop_at}
use borrow.Author.Tests.{eq-eqb}
use borrow.Rule.Slice.PartMut.{put_mid}
use Rattle.std.specs.Int.{w16, w32, w64, byte_worth, sum_through, from_le_bytes, to_le_bytes}
use Rattle.std.specs.Simd.{first_chunks}
use Rattle.base.specs.Outcome.{Permits, overwrite, given}
use Rattle.base.specs.Inner.Numbers.{count_answer_of, refusal_number}
use Rattle.base.specs.declared.refusals.Answer.{Answer}
use Rattle.base.specs.declared.refusals.Refusal.{Refusal}
use Rattle.base.proofs.Numbers.{refusal_positive}
use Rattle.std.specs.Prelude.{Result, Ok, Err}
use Rattle.base.proofs.Settle.{settle_gives}
use Rattle.base.proofs.Lists.{overwrite_more, overwrite_front, rest_whole}
use Rattle.records.specs.Wire.{number, number_at, low_bytes, ids_in, id_bytes, read_outcome}

-- a byte
pub number_one : (bytes : List ℕ) (at : ℕ) → at < length bytes → number_at 1 bytes at ≡ get_or bytes at 0
unfolding number
number_one bytes at h = rw (drop-cons bytes at 0 h) (omega arith)

number_append : (xs ys : List ℕ) → number (xs ++ ys) ≡ number xs + 256 ^ length xs * number ys
unfolding number
number_append [] ys = omega arith
number_append (x ∷ xs) ys =
    rw (number_append xs ys, pow-succ' 256 (length xs), mul_assoc) (omega arith)

-- bytes of which each is worth 256 times the one before it stand for the number that the specs define
worths : (k : ℕ) (bytes : List ℕ) → k < length bytes
    → sum_through (λ i. byte_worth i (get_or bytes i 0)) k ≡ number (take (suc k) bytes)
unfolding number
worths zero bytes h = sym (number_one bytes 0 h)
worths (suc k) bytes h =
    let w = worths k bytes (omega arith) in
    let e : length (take (suc k) bytes) ≡ suc k = length-take-le (suc k) bytes (omega arith) in
    rw (take-suc bytes (suc k) 0 h, number_append, e, ← w) (omega arith)

-- the library's numbers of 2, 4 and 8 bytes
pub number_2 : (bytes : List ℕ) → length bytes ≡ 2 → from_le_bytes w16 bytes ≡ number bytes
number_2 bytes e = worths 1 bytes (omega arith) ∙ ap number (take_all 2 bytes (omega arith))

pub number_4 : (bytes : List ℕ) → length bytes ≡ 4 → from_le_bytes w32 bytes ≡ number bytes
number_4 bytes e = worths 3 bytes (omega arith) ∙ ap number (take_all 4 bytes (omega arith))

pub number_8 : (bytes : List ℕ) → length bytes ≡ 8 → from_le_bytes w64 bytes ≡ number bytes
number_8 bytes e = worths 7 bytes (omega arith) ∙ ap number (take_all 8 bytes (omega arith))

first_two : (bytes : List ℕ) → 2 ≤ length bytes → get_or bytes 0 0 ∷ get_or bytes 1 0 ∷ [] ≡ take 2 bytes
first_two [] h = absurd (omega arith)
first_two (x ∷ []) h = absurd (omega arith)
first_two (x ∷ y ∷ bytes) h = refl

-- what begins at a place: it is cut off before its fourth byte, or has a number there and further bytes behind it
pub length-rest : (bytes : List ℕ) (at : ℕ) → length (take (length bytes - at) (drop at bytes)) ≡ length bytes - at
length-rest bytes at = rw (rest_whole bytes at) (length-drop at bytes)

module _ (bytes front behind : List ℕ) (at : ℕ)
    (cut : (front ≡ take 4 (take (length bytes - at) (drop at bytes))) × (behind ≡ drop 4 (take (length bytes - at) (drop at bytes)))
    × (length behind + 4 ≡ length (take (length bytes - at) (drop at bytes)))) where
  pub length-behind : length behind + 4 ≡ length bytes - at
  length-behind = cut.2 ∙ length-rest bytes at

  pub four_at : from_le_bytes w32 front ≡ number_at 4 bytes at
  four_at =
      let e : front ≡ take 4 (drop at bytes) = cut.0 ∙ ap (take 4) (rest_whole bytes at) in
      let l : length front ≡ 4 = rw e (length-take-le 4 (drop at bytes) (rw length-drop (omega (arith, length-behind)))) in
      number_4 front l ∙ ap number e

  pub two_behind : 2 ≤ length behind → from_le_bytes w16 (get_or behind 0 0 ∷ get_or behind 1 0 ∷ []) ≡ number_at 2 bytes (at + 4)
  two_behind h =
      let e : behind ≡ drop (at + 4) bytes = cut.1 ∙ ap (drop 4) (rest_whole bytes at) ∙ drop-drop 4 at bytes in
      number_2 (get_or behind 0 0 ∷ get_or behind 1 0 ∷ []) refl ∙ ap number (first_two behind h ∙ ap (take 2) e)

-- and its bytes of a number
pub bytes_8 : (n : ℕ) → to_le_bytes w64 n ≡ low_bytes 8 n
unfolding low_bytes
bytes_8 n =
    let a : n / 65536 ≡ n / 256 / 256 = omega arith in
    let b : n / 16777216 ≡ n / 256 / 256 / 256 = omega arith in
    let c : n / 4294967296 ≡ n / 256 / 256 / 256 / 256 = omega arith in
    let d : n / 1099511627776 ≡ n / 256 / 256 / 256 / 256 / 256 = omega arith in
    let e : n / 281474976710656 ≡ n / 256 / 256 / 256 / 256 / 256 / 256 = omega arith in
    let f : n / 72057594037927936 ≡ n / 256 / 256 / 256 / 256 / 256 / 256 / 256 = omega arith in
    rw (a, b, c, d, e, f)

pub length_ids : (n : ℕ) (bytes : List ℕ) → length (ids_in n bytes) ≡ n
unfolding ids_in
length_ids zero bytes = refl
length_ids (suc n) bytes = ap suc (length_ids n (drop 8 bytes))

pub ids_at : (n : ℕ) (bytes : List ℕ) (i : ℕ) → i < n → get_or (ids_in n bytes) i 0 ≡ number_at 8 bytes (8 * i)
unfolding ids_in
ids_at zero bytes i h = absurd (not-suc-le-zero h)
ids_at (suc n) bytes zero h = refl
ids_at (suc n) bytes (suc i) h =
    let e : 8 + 8 * i ≡ 8 * suc i = omega arith in
    ids_at n (drop 8 bytes) i (le_of_suc-le-suc h) ∙ rw (drop-drop, e)

chunk_at : (n k : ℕ) (bytes : List ℕ) (i : ℕ) (d : List ℕ) → i < k
    → get_or (first_chunks n k bytes) i d ≡ take n (drop (n * i) bytes)
chunk_at n zero bytes i d h = absurd (not-suc-le-zero h)
chunk_at n (suc k) bytes zero d h = rw (mul-zero n)
chunk_at n (suc k) bytes (suc i) d h =
    let e : n + n * i ≡ n * suc i = omega arith in
    chunk_at n k (drop n bytes) i d (le_of_suc-le-suc h) ∙ rw (drop-drop, e)

-- an id is the library's number of its run of eight
pub id_at : (k : ℕ) (bytes : List ℕ) (runs : List (List ℕ)) (i : ℕ) (d : List ℕ) → runs ≡ first_chunks 8 k bytes → 8 * k ≤ length bytes → i < k
    → from_le_bytes w64 (get_or runs i d) ≡ get_or (ids_in k bytes) i 0
id_at k bytes runs i d are room h =
    let run = get_or runs i d in
    let e : run ≡ take 8 (drop (8 * i) bytes) = rw are (chunk_at 8 k bytes i d h) in
    let l : length run ≡ 8 = rw e (length-take-le 8 (drop (8 * i) bytes) (rw length-drop (omega arith))) in
    number_8 run l ∙ ap number e ∙ sym (ids_at k bytes i h)

pub length-low_bytes : (n x : ℕ) → length (low_bytes n x) ≡ n
unfolding low_bytes
length-low_bytes zero x = refl
length-low_bytes (suc n) x = ap suc (length-low_bytes n _)

pub length-id_bytes : (ids : List ℕ) → length (id_bytes ids) ≡ 8 * length ids
unfolding id_bytes
length-id_bytes [] = refl
length-id_bytes (id ∷ ids) =
    rw (length-append (low_bytes 8 id), length-low_bytes, length-id_bytes ids) (omega arith)

id_bytes-append : (xs ys : List ℕ) → id_bytes (xs ++ ys) ≡ id_bytes xs ++ id_bytes ys
unfolding id_bytes
id_bytes-append [] ys = refl
id_bytes-append (x ∷ xs) ys = rw (id_bytes-append xs ys, append_assoc)

-- the bytes of one id more
pub id_bytes_more : (ids : List ℕ) (i : ℕ) → i < length ids
    → id_bytes (take (i + 1) ids) ≡ id_bytes (take i ids) ++ low_bytes 8 (get_or ids i 0)
unfolding id_bytes
id_bytes_more ids i h = rw (add-one, take-suc ids i 0 h, id_bytes-append, append-nil)

-- a turn of the loop that writes ids
pub id_turn : (ids out low : List ℕ) (i : ℕ) → i < length ids → low ≡ low_bytes 8 (get_or ids i 0)
    → put_mid (8 * i) (8 * i + 8 - 8 * i) (overwrite (id_bytes (take i ids)) out) low ≡ overwrite (id_bytes (take (i + 1) ids)) out
unfolding overwrite
id_turn ids out low i h l =
    let e : length (id_bytes (take i ids)) ≡ 8 * i = rw (length-id_bytes (take i ids), length-take-le i ids (omega arith)) in
    let k : 8 * i + 8 - 8 * i ≡ length low = rw (l, length-low_bytes) (omega arith) in
    rw (k, id_bytes_more ids i h, ← l, ← e) (overwrite_more (id_bytes (take i ids)) low out)

-- what a read gives that has whole ids and room for them
module _ (bytes out : List ℕ) (outcome : Result ℕ Refusal) (lent : List ℕ)
    (reads : Permits (read_outcome bytes out) (count_answer_of outcome) lent) (whole : length bytes % 8 ≡ 0) (room : length bytes / 8 ≤ length out) where
  gives : Permits (record { answer = given 0 (length bytes / 8); lent = overwrite (ids_in (length bytes / 8) bytes) out }) (count_answer_of outcome) lent
  unfolding read_outcome
  gives =
      let fits : length (ids_in (length bytes / 8) bytes) ≤ length out = rw length_ids room in
      rw (eq-eqb (length bytes % 8) 0 whole, settle_gives 0 0 (length bytes / 8) (ids_in (length bytes / 8) bytes) out refl fits) at reads

  pub read_count : outcome ≡ Ok (length bytes / 8)
  read_count = counted outcome gives.answered
    where
      counted : (r : Result ℕ Refusal) → count_answer_of r ≡ given 0 (length bytes / 8) → r ≡ Ok (length bytes / 8)
      counted (Ok n) e = ap Ok (ap (λ (a : Answer). a.count) e)
      counted (Err refusal) e =
          let none : refusal_number refusal ≡ 0 = ap (λ (a : Answer). a.refusal) e in
          absurd (omega (arith, refusal_positive refusal, none))

  pub read_number : (n : ℕ) → outcome ≡ Ok n → n ≡ length bytes / 8
  read_number n e = cc (read_count, e)

  pub read_front : take (length bytes / 8) lent ≡ ids_in (length bytes / 8) bytes
  read_front =
      let ids = ids_in (length bytes / 8) bytes in
      rw gives.left (rw (length_ids (length bytes / 8) bytes) at (overwrite_front ids out))

-- bytes are read as the number that was written
number-low_bytes : (n x : ℕ) → x < 256 ^ n → number (low_bytes n x) ≡ x
unfolding number low_bytes
number-low_bytes zero x h = omega (arith, h)
number-low_bytes (suc n) x h =
    let p = pow-succ' 256 n in
    let r = number-low_bytes n (x / 256) (omega arith) in
    rw r (omega arith)

-- every id fits its eight bytes
abbrev pub Fit : List ℕ → Type 0
Fit [] = Unit {0}
Fit (id ∷ ids) = (id < 256 ^ 8) × Fit ids

-- ids that are written and read again are the same
pub ids_again : (ids : List ℕ) → Fit ids → ids_in (length ids) (id_bytes ids) ≡ ids
unfolding ids_in id_bytes
ids_again [] f = refl
ids_again (id ∷ ids) f =
    let e = length-low_bytes 8 id in
    rw (take_at (low_bytes 8 id) (id_bytes ids) 8 e, drop_at (low_bytes 8 id) (id_bytes ids) 8 e, number-low_bytes 8 id f.0, ids_again ids f.1)
