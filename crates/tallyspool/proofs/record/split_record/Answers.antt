-- `record::split_record` meets its contract: a whole record's ids are all the bytes behind its kind.
use Rattle.std.proofs.Common.{◌-◌, ◌≤◌, refl, sym, ◌∙◌, arith, length, drop, length-drop, eq-eqb, ne_eqb}
use lib.Seq.{length-take-le}
use Rattle.records.proofs.Frames.{stands}
use Rattle.tallyspool.specs.Record.{split_record}
use Rattle.tallyspool.proofs.Long.{record_ids}
use Rattle.tallyspool.proofs.record.split_record.Goals as goal

pub slice_bounds-split_bytes-count : goal.slice_bounds-split_bytes-count
slice_bounds-split_bytes-count c =
    let s = stands c.args.bytes.now 0 _ _ _ _ (sym c.frame_at.ensures ∙ c.in-Whole.is) in
    omega (arith, s.eights)

pub slice_bounds-split_bytes-start : goal.slice_bounds-split_bytes-start
slice_bounds-split_bytes-start c =
    let s = stands c.args.bytes.now 0 _ _ _ _ (sym c.frame_at.ensures ∙ c.in-Whole.is) in
    omega (arith, s.eights)

pub split_bytes-requires : goal.split_bytes-requires
split_bytes-requires c =
    let bytes = c.args.bytes.now in
    let w = c.in-Whole in
    let s = stands bytes 0 _ _ _ _ (sym c.frame_at.ensures ∙ w.is) in
    let within : w.next - w.start ≤ length (drop w.start bytes) = rw length-drop (omega (arith, s.within)) in
    rw (length-take-le (w.next - w.start) (drop w.start bytes) within) (omega (arith, s.eights), omega (arith, s.eights, s.few))

pub returns-in-Whole : goal.returns-in-Whole
unfolding split_record
returns-in-Whole c =
    let bytes = c.args.bytes.now in
    let whole = sym c.frame_at.ensures ∙ c.in-Whole.is in
    let s = stands bytes 0 _ _ _ _ whole in
    rw (whole, eq-eqb _ _ c.if-next-bytes.true) (rw (record_ids bytes _ _ _ s c.if-next-bytes.true) at c.split_bytes.ensures)

pub returns-in_default : goal.returns-in_default
unfolding split_record
returns-in_default c =
    rw (sym c.frame_at.ensures ∙ c.in-Whole.is, ne_eqb _ _ c.if-next-bytes.false) (record { answered = refl; left = refl })
