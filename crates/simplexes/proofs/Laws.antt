-- Laws of lists that are read and written an entry at a time.
use mathlib.Core.Path.{◌≡◌, refl, sym, ◌∙◌, ap, ap₂}
use mathlib.Core.Bool.{Bool, true, false, cond, not}
use mir.Val.{bool_byte}
use mathlib.Core.List.{List, [], ◌∷◌, ◌++◌, append-nil}
use Prim.Native.Nat.{ℕ, ◌+◌, ◌-◌, ◌≤◌, ◌<◌}
use native.Mathlib.Omega.{arith}
use lib.ListN.{length, get_or, take, drop, set, drop_of_length-le}
use lib.Seq.{get_or-take}
use Rattle.base.specs.Kinds.{separator}
use Rattle.base.specs.Gather.{pick, undigit}
use Rattle.base.specs.Outcome.{overwrite}
use Rattle.base.proofs.Lists.{front_more}
use Rattle.base.proofs.Picks.{undigit_at, within_default}
use Rattle.cuts.specs.Inner.Strings.{Within}

-- what is as long as the place that it is written over fills it
pub fills : (xs out : List ℕ) → length xs ≡ length out → overwrite xs out ≡ xs
unfolding overwrite
fills xs out e = let h : length out ≤ length xs = omega arith in rw (drop_of_length-le out h, append-nil)

pub four_are : (xs : List ℕ) → length xs ≡ 4 → get_or xs 0 0 ∷ get_or xs 1 0 ∷ get_or xs 2 0 ∷ get_or xs 3 0 ∷ [] ≡ xs
four_are [] h = absurd (omega arith)
four_are (a ∷ []) h = absurd (omega arith)
four_are (a ∷ b ∷ []) h = absurd (omega arith)
four_are (a ∷ b ∷ c ∷ []) h = absurd (omega arith)
four_are (a ∷ b ∷ c ∷ d ∷ []) h = refl
four_are (a ∷ b ∷ c ∷ d ∷ e ∷ xs) h = absurd (omega arith)

-- a turn of a loop that writes the first n of a list from the left, an entry at a time
module _ (n : ℕ) (xs out : List ℕ) where
  pub front_next : (k j : ℕ) (before after : List ℕ) → k < n → k < length (take n xs) → k < length out → j ≡ k + 1
      → before ≡ take k (take n xs) ++ drop k out → after ≡ set before k (get_or xs k 0)
      → after ≡ take j (take n xs) ++ drop j out
  front_next k j before after h i l e b a =
      a ∙ ap₂ (λ (ys : List ℕ) (x : ℕ). set ys k x) b (sym (get_or-take n xs k 0 h))
      ∙ front_more (take n xs) out k i l ∙ ap (λ (j : ℕ). take j (take n xs) ++ drop j out) (sym e)

-- the id that is read at a corner is the one that is picked
pub corner_read : (ids string : List ℕ) (at corner : ℕ) → at < length string → Within (length ids) string
    → corner ≡ get_or string at 0 - 48 → get_or ids corner 0 ≡ get_or (pick ids (undigit string)) at 0
corner_read ids string at corner h within e =
    let w = within at h in
    let lt : get_or string at 0 - 48 < length ids = omega (arith, w.0, w.1) in
    ap (λ (k : ℕ). get_or ids k 0) e ∙ within_default ids (get_or string at 0 - 48) 0 separator lt ∙ sym (undigit_at ids string at h)

-- 0 for the first diagonal, 1 for the second
pub byte_is : (first : Bool) → bool_byte (not first) ≡ cond first 0 1
byte_is true = refl
byte_is false = refl

-- the ids of a quad, read one by one
pub quad_read : (cell : List ℕ) (a b c d : ℕ) → a < length cell → b < length cell → c < length cell → d < length cell
    → get_or cell a 0 ∷ get_or cell b 0 ∷ get_or cell c 0 ∷ get_or cell d 0 ∷ [] ≡ pick cell (a ∷ b ∷ c ∷ d ∷ [])
unfolding pick
quad_read cell a b c d h i j k =
    rw (within_default cell a 0 separator h, within_default cell b 0 separator i, within_default cell c 0 separator j, within_default cell d 0 separator k)
