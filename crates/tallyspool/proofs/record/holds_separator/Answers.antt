-- `record::holds_separator` meets its contract: what was found, or else what is left to read, decides.
use Rattle.std.proofs.Common.{◌≡◌, ◌∙◌, ◌+◌, ◌/◌, ◌<◌, ◌≤◌, ℕ, List, Bool, sym, ap, length, nat_eq, arith, drop, get_or, add-one}
use lib.ListN.{drop_of_length-le}
use lib.Seq.{drop-cons}
use mathlib.Core.Bool.{◌||◌}
use Rattle.base.specs.Checks.{holds_separator}
use Rattle.base.specs.Kinds.{separator}
use Rattle.base.proofs.Tests.{or_assoc, or-false}
use Rattle.records.specs.Wire.{ids_in}
use Rattle.records.proofs.Bytes.{id_at, length_ids}
use Rattle.tallyspool.proofs.record.holds_separator.Goals as goal

-- the search by the entry at a place, of which it is told whether it is a separator
step : (ids : List ℕ) (i id : ℕ) → i < length ids → id ≡ get_or ids i 0
    → holds_separator (drop i ids) ≡ (nat_eq id separator || holds_separator (drop (i + 1) ids))
unfolding holds_separator
step ids i id h e = rw (add-one, drop-cons ids i 0 h, e)

pub loop-id-preserved : goal.loop-id-preserved
loop-id-preserved c =
    let s = c.args.bytes.now in
    let n = length s / 8 in
    let at = c.loop-id.id-index in
    let fits : at < n = omega (arith, c.as_chunks.ensures.front_len) in
    let l : at < length (ids_in n s) = rw length_ids fits in
    let v = c.from_le_bytes.ensures ∙ id_at n s c.as_chunks.result.0.now at _ c.as_chunks.ensures.front (omega arith) fits in
    or_assoc c.loop-id.found (nat_eq c.from_le_bytes.result separator) (holds_separator (drop (at + 1) (ids_in n s)))
    ∙ ap (λ (b : Bool). c.loop-id.found || b) (sym (step (ids_in n s) at c.from_le_bytes.result l v)) ∙ c.loop-id.invariant

pub returns : goal.returns
unfolding holds_separator
returns c =
    let s = c.args.bytes.now in
    let n = length s / 8 in
    let l : length (ids_in n s) ≤ c.loop-id.id-index = rw length_ids (omega (arith, c.as_chunks.ensures.front_len)) in
    sym (or-false c.loop-id.found) ∙ (rw (drop_of_length-le (ids_in n s) l) at c.loop-id.invariant)
