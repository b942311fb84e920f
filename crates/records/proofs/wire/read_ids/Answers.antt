-- `wire::read_ids` meets its contract: the three ways in which an operation ends.
use Rattle.std.proofs.Common.{◌≡◌, refl, length, arith, ◌/◌, ◌%◌, ◌≤◌, ◌<◌, ◌∙◌}
use borrow.Author.Tests.{eq-eqb, ne_eqb, eqb-true, eqb-false}
use mathlib.Core.Path.{sym}
use Rattle.base.proofs.Settle.{settle_refuses, settle_short, settle_gives}
use Rattle.base.proofs.Lists.{front_more, front_whole}
use Rattle.records.specs.Wire.{read_outcome, ids_in}
use Rattle.records.proofs.Bytes.{length_ids, id_at}
use Rattle.records.proofs.wire.read_ids.Goals as goal

pub returns-then-not-is_empty : goal.returns-then-not-is_empty
unfolding read_outcome
returns-then-not-is_empty c =
    let s = c.args.bytes.now in
    let odd : length s % 8 ≡ 0 → ⊥ = λ e. eqb-false _ _ (sym c.is_empty.ensures ∙ c.if-not-is_empty.true) (c.as_chunks.ensures.back_len ∙ e) in
    rw (ne_eqb (length s % 8) 0 odd, settle_refuses 21 0 (length s / 8) (ids_in (length s / 8) s) c.args.out.now (omega arith))
    (record { answered = refl; left = refl })

pub returns-then-out-ids : goal.returns-then-out-ids
unfolding read_outcome
returns-then-out-ids c =
    let s = c.args.bytes.now in
    let whole : length s % 8 ≡ 0 = sym c.as_chunks.ensures.back_len ∙ eqb-true _ _ (sym c.is_empty.ensures ∙ c.if-not-is_empty.false) in
    let l : length c.args.out.now < length (ids_in (length s / 8) s) = rw length_ids (omega (arith, c.as_chunks.ensures.front_len)) in
    rw (eq-eqb (length s % 8) 0 whole, settle_short 0 0 (length s / 8) (ids_in (length s / 8) s) c.args.out.now refl l)
    (record { answered = refl; left = refl })

pub loop-at-preserved : goal.loop-at-preserved
loop-at-preserved c =
    let s = c.args.bytes.now in
    let at = c.loop-at.at in
    let n = length s / 8 in
    let fits : at < n = omega (arith, c.as_chunks.ensures.front_len) in
    let h : at < length (ids_in n s) = rw length_ids fits in
    let v = c.from_le_bytes.ensures ∙ id_at n s c.as_chunks.result.0.now at _ c.as_chunks.ensures.front (omega arith) fits in
    rw (c.loop-at.invariant, v) (front_more (ids_in n s) c.args.out.now at h (omega arith))

pub returns : goal.returns
unfolding read_outcome
returns c =
    let s = c.args.bytes.now in
    let n = length s / 8 in
    let whole : length s % 8 ≡ 0 = sym c.as_chunks.ensures.back_len ∙ eqb-true _ _ (sym c.is_empty.ensures ∙ c.if-not-is_empty.false) in
    let l : length (ids_in n s) ≤ length c.args.out.now = rw length_ids (omega (arith, c.as_chunks.ensures.front_len)) in
    let e : c.loop-at.at ≡ length (ids_in n s) = rw length_ids (omega (arith, c.as_chunks.ensures.front_len)) in
    rw (eq-eqb (length s % 8) 0 whole, settle_gives 0 0 n (ids_in n s) c.args.out.now refl l)
    (record { answered = rw c.as_chunks.ensures.front_len; left = c.loop-at.invariant ∙ front_whole _ _ _ e })
