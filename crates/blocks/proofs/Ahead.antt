-- Bricks that are written one after another, with filler behind each that the next goes over.
use mathlib.Core.Path.{◌≡◌, sym, ◌∙◌, ap}
use mathlib.Core.List.{List, ◌++◌, append_assoc}
use Prim.Native.Nat.{ℕ, ◌+◌, ◌-◌, ◌≤◌}
use native.Mathlib.Omega.{arith}
use lib.ListN.{length, take, drop, length-append, length-drop}
use lib.Seq.{length-take-le, take-append-add, drop-append-add, drop-drop}
use Rattle.base.specs.Inner.Place.{put_at}
use Rattle.base.specs.Outcome.{overwrite}
use Rattle.simplexes.specs.Inner.Written.{Ahead}

-- what holds of the part from a place on holds of the whole, behind what lies before
pub ahead_at : (done out lent : List ℕ) (at : ℕ) → at ≤ length out → Ahead done (drop at out) lent
    → Ahead (take at out ++ done) out (take at out ++ lent)
ahead_at done out lent at h a =
    let before = take at out in
    let e : length before ≡ at = length-take-le at out h in
    let n : length (before ++ done) ≡ length before + length done = length-append before done in
    let m : length before + length done + 4 ≡ length before + (length done + 4) = omega arith in
    record {
      front = rw n (take-append-add before lent (length done) ∙ ap (λ (xs : List ℕ). before ++ xs) a.front);
      rest = rw (n, m) (drop-append-add before lent (length done + 4) ∙ a.rest ∙ drop-drop (length done + 4) at out ∙ ap (λ (k : ℕ). drop (k + (length done + 4)) out) (sym e));
      long = omega (arith, length-append before lent, a.long, length-drop at out);
    }

module _ (done more out : List ℕ) (lent : List ℕ) (at : ℕ) (h : at ≡ length done) (a : Ahead done out lent) where
  -- what stands before the next
  before : take at lent ≡ done
  before = rw h a.front

  -- far enough behind, nothing has changed
  behind : (k : ℕ) → drop (length done + 4 + k) lent ≡ drop (length done + 4 + k) out
  behind k = sym (drop-drop k (length done + 4) lent) ∙ ap (drop k) a.rest ∙ drop-drop k (length done + 4) out

  -- a turn of the loop that writes them
  pub ahead_more : (next : List ℕ) → Ahead (take at lent ++ more) lent next → Ahead (done ++ more) out next
  ahead_more next b =
      let c : Ahead (done ++ more) lent next = rw before at b in
      let e : length (done ++ more) + 4 ≡ length done + 4 + length more = omega (arith, length-append done more) in
      record { front = c.front; rest = c.rest ∙ rw e (behind (length more)); long = c.long ∙ a.long }

  -- the last has no filler behind it, and goes over that of the one before
  pub ahead_last : (next : List ℕ) → 4 ≤ length more → next ≡ put_at more at lent → next ≡ overwrite (done ++ more) out
  unfolding put_at overwrite
  ahead_last next long e =
      let k : at + length more ≡ length done + 4 + (length more - 4) = omega arith in
      let n : length (done ++ more) ≡ length done + 4 + (length more - 4) = omega (arith, length-append done more) in
      e ∙ rw (before, drop-drop (length more) at lent, k, behind (length more - 4), n) (sym (append_assoc done more _))
