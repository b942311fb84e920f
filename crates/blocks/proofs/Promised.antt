-- What a block promises, from its one outcome: a success is the tetrahedra of its cells over the front of what was lent.
use mathlib.Core.Path.{◌≡◌, refl, sym, ◌∙◌, ap}
use mathlib.Core.Bool.{Bool, true, false, cond}
use mathlib.Core.List.{List}
use Prim.Native.Nat.{ℕ, ◌*◌, ◌≤◌}
use lib.Dec.{eqb, ltb}
use lib.ListN.{length, take}
use borrow.Author.Tests.{eqb-true, eqb-false, ltb-false}
use Rattle.base.specs.Outcome.{Outcome, overwrite, settle, settle_one, decide, given}
use Rattle.base.specs.declared.refusals.Answer.{Answer}
use Rattle.base.proofs.Lists.{overwrite_front, overwrite_rest}
use Rattle.base.proofs.Settle.{settle_gives}
use Rattle.cuts.specs.Demand3.{splits}
use Rattle.cuts.proofs.NoSlit.{total-over}
use Rattle.blocks.specs.Blocks.{cells_of, counts, split_block, split_block_refusal}
use Rattle.blocks.specs.Promises.{Kept}
use Rattle.blocks.proofs.Parts.{taken, solid_is, four_each}

-- an answer without refusal: nothing refuses, there is room, and the outcome is what is given
pub record Success (why kind count : ℕ) (xs out : List ℕ) : Type 0 where
  pub none : why ≡ 0
  pub fits : length xs ≤ length out
  pub is : settle why kind count xs out ≡ record { answer = given kind count; lent = overwrite xs out }

success : (why kind count : ℕ) (xs out : List ℕ) → (settle why kind count xs out).answer.refusal ≡ 0 → Success why kind count xs out
unfolding settle settle_one decide
success why kind count xs out h = go (eqb why 0) (ltb (length out) (length xs)) refl refl h
  where
    gives : Outcome Answer (List ℕ)
    gives = record { answer = given kind count; lent = overwrite xs out }

    go : (x y : Bool) → eqb why 0 ≡ x → ltb (length out) (length xs) ≡ y
        → (cond x (cond y (record { answer = record { refusal = 7; kind = 0; count = 0 }; lent = out }) gives)
        (record { answer = record { refusal = why; kind = 0; count = 0 }; lent = out })).answer.refusal ≡ 0
        → Success why kind count xs out
    go true true e f h = absurd (eqb-false 7 0 refl h)
    go true false e f h =
        let n = eqb-true why 0 e in
        let l = ltb-false (length out) (length xs) f in
        record { none = n; fits = l; is = settle_gives why kind count xs out n l }
    go false y e f h = absurd (eqb-false why 0 e h)

module _ (kind : ℕ) (ids out : List ℕ) (h : (split_block kind ids out).answer.refusal ≡ 0) where
  pub done : Success (split_block_refusal kind ids) 11 (counts (cells_of kind ids)) (splits (cells_of kind ids)) out
  unfolding split_block
  done = success _ _ _ _ _ h

  pub block_is : split_block kind ids out ≡ record { answer = given 11 (counts (cells_of kind ids)); lent = overwrite (splits (cells_of kind ids)) out }
  unfolding split_block
  block_is = done.is

  pub long : length (splits (cells_of kind ids)) ≡ counts (cells_of kind ids) * 4
  long = four_each kind (solid_is kind (taken kind ids done.none).fills).tets _ ids

pub kept : Kept
kept kind ids out r lent p h =
    let ok = sym (ap (λ (a : Answer). a.refusal) p.answered) ∙ h in
    let is = block_is kind ids out ok in
    let cs = cells_of kind ids in
    let n : r.count * 4 ≡ length (splits cs) =
    ap (λ (k : ℕ). k * 4) (ap (λ (a : Answer). a.count) p.answered ∙ ap (λ (o : Outcome Answer (List ℕ)). o.answer.count) is) ∙ sym (long kind ids out ok) in
    let l : lent ≡ overwrite (splits cs) out = p.left ∙ ap (λ (o : Outcome Answer (List ℕ)). o.lent) is in
    let front : take (r.count * 4) lent ≡ splits cs = rw (n, l) (overwrite_front (splits cs) out) in
    record {
      written = front;
      kept = rw (n, l) (overwrite_rest (splits cs) out);
      no_slit = λ proper t. rw front (total-over cs proper t);
    }
