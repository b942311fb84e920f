-- Laws of bytes put at a place, and of texts that are written one behind the other.
use mathlib.Core.Path.{◌≡◌, refl, sym, ◌∙◌}
use Prim.Native.Nat.{ℕ, ◌+◌, ◌≤◌}
use native.Mathlib.Nat.{add-zero}
use native.Mathlib.Omega.{arith}
use mathlib.Core.List.{List, [], ◌++◌, append_assoc}
use borrow.Rule.Slice.PartMut.{put_mid}
use lib.ListN.{length, take, length-append, length-drop, take-append-drop}
use lib.Seq.{take_at, drop_at, drop-drop, length-take-le}
use Rattle.base.specs.Outcome.{overwrite}
use Rattle.base.specs.Inner.Place.{put_at}
use Rattle.records.specs.Inner.Writer.{Wrote}
use Rattle.records.specs.declared.text.Writer.{Writer}

pub put_none : (at : ℕ) (out : List ℕ) → put_at [] at out ≡ out
unfolding put_at overwrite
put_none at out = take-append-drop at out

-- bytes, and further bytes behind them
pub put_more : (xs ys out : List ℕ) (at : ℕ) → at ≤ length out
    → put_at ys (at + length xs) (put_at xs at out) ≡ put_at (xs ++ ys) at out
unfolding put_at overwrite
put_more xs ys out at h =
    let e : length (take at out ++ xs) ≡ at + length xs = rw (length-append, length-take-le at out h) in
    rw (
      ← append_assoc (take at out) xs,
      take_at (take at out ++ xs) _ _ e,
      drop_at (take at out ++ xs) _ _ e,
      drop-drop,
      length-append,
      append_assoc,
      append_assoc,
    )

-- a part of a list that is written over
pub put_part : (xs out : List ℕ) (at n : ℕ) → length xs ≡ n → put_mid at n out xs ≡ put_at xs at out
unfolding put_at overwrite
put_part xs out at n e = rw e

pub length-put_part : (xs out : List ℕ) (at n : ℕ) → length xs ≡ n → at + n ≤ length out → length (put_mid at n out xs) ≡ length out
length-put_part xs out at n e h =
    rw (length-append, length-append, length-drop, length-drop, length-take-le at out (omega arith)) (omega arith)

-- no text
pub wrote_none : (writer : Writer) → Wrote [] 0 writer writer
wrote_none writer =
    record { left = sym (put_none writer.at writer.out.now); behind = sym (add-zero writer.at); few = omega arith; long = refl; same = refl }

-- a text of fewer bytes than are allowed
pub wrote_within : (text : List ℕ) (m most : ℕ) (before after : Writer) → m ≤ most → Wrote text m before after → Wrote text most before after
wrote_within text m most before after h w = record { left = w.left; behind = w.behind; few = omega (arith, w.few); long = w.long; same = w.same }

-- a text and a further text behind it are one text
pub wrote_more : (xs ys : List ℕ) (m n most : ℕ) (before mid after : Writer) → before.at ≤ length before.out.now → m + n ≤ most
    → Wrote xs m before mid → Wrote ys n mid after → Wrote (xs ++ ys) most before after
wrote_more xs ys m n most before mid after h k v w =
    record {
      left = w.left ∙ rw (v.left, v.behind) (put_more xs ys before.out.now before.at h);
      behind = rw length-append (omega (arith, v.behind, w.behind));
      few = omega (arith, v.few, w.few);
      long = w.long ∙ v.long;
      same = w.same ∙ v.same;
    }
