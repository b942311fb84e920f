-- Laws of lists written from the front, and of a part that is lent on and comes back.
use mathlib.Core.Path.{◌≡◌}
use Prim.Native.Nat.{ℕ, suc, ◌+◌, ◌-◌, ◌<◌, ◌≤◌}
use native.Mathlib.Numerals.{add-one}
use native.Mathlib.Omega.{arith}
use mathlib.Core.List.{List, ◌++◌, append_assoc, append-nil}
use lib.ListN.{length, get_or, take, drop, set, length-append, length-drop, drop_of_length-le}
use lib.Seq.{drop-cons, take-suc, set_at, append_snoc, length-take-le, take-append_seam, drop-append_seam, drop-drop, take_all, take-length}
use Rattle.base.specs.Outcome.{overwrite}

-- a turn of a loop that writes a front from the left
pub front_more : (xs out : List ℕ) (i : ℕ) → i < length xs → i < length out
    → set (take i xs ++ drop i out) i (get_or xs i 0) ≡ take (i + 1) xs ++ drop (i + 1) out
front_more xs out i h k =
    rw (add-one, drop-cons out i 0, take-suc xs i 0, append_snoc)
    (set_at (take i xs) (get_or out i 0) (drop (suc i) out) (get_or xs i 0) i (length-take-le i xs (omega arith)))

-- the loop's end: the whole list is written
pub front_whole : (xs out : List ℕ) (i : ℕ) → i ≡ length xs → take i xs ++ drop i out ≡ overwrite xs out
unfolding overwrite
front_whole xs out i e = rw (e, take-length)

module _ (xs out : List ℕ) where
  pub length-overwrite : length xs ≤ length out → length (overwrite xs out) ≡ length out
  unfolding overwrite
  length-overwrite h = simp (length-append, length-drop) (omega arith)

  -- the answer stands at the front
  pub overwrite_front : take (length xs) (overwrite xs out) ≡ xs
  unfolding overwrite
  overwrite_front = take-append_seam xs (drop (length xs) out)

  -- what lies behind it stays
  pub overwrite_rest : drop (length xs) (overwrite xs out) ≡ drop (length xs) out
  unfolding overwrite
  overwrite_rest = drop-append_seam xs (drop (length xs) out)

-- a further answer behind those that are written
pub overwrite_more : (xs ys out : List ℕ)
    → take (length xs) (overwrite xs out) ++ overwrite ys (drop (length xs) (overwrite xs out)) ≡ overwrite (xs ++ ys) out
unfolding overwrite
overwrite_more xs ys out = rw (take-append_seam, drop-append_seam, drop-drop, length-append, append_assoc)

-- a part lent on from `at` to the end is all of the rest
pub rest_whole : (xs : List ℕ) (at : ℕ) → take (length xs - at) (drop at xs) ≡ drop at xs
rest_whole xs at =
    let h : length (drop at xs) ≤ length xs - at = simp length-drop (omega arith) in
    take_all _ _ h

-- what comes back of it leaves nothing behind
pub rest_back : (xs ys : List ℕ) (at : ℕ) → ys ++ drop (length xs - at) (drop at xs) ≡ ys
rest_back xs ys at =
    let h : length (drop at xs) ≤ length xs - at = simp length-drop (omega arith) in
    rw (drop_of_length-le (drop at xs) h, append-nil)
