-- `wire::write_ids` meets its contract: out is too short, or the bytes are written.
use Rattle.std.proofs.Common.{◌≡◌, refl, length, arith, ◌*◌, ◌≤◌, ◌<◌, ◌∙◌}
use lib.Seq.{take-length}
use Rattle.base.proofs.Settle.{settle_short, settle_gives}
use Rattle.base.specs.Outcome.{overwrite}
use Rattle.records.specs.Wire.{write_outcome, id_bytes}
use Rattle.records.proofs.Bytes.{length-id_bytes, id_turn, bytes_8}
use Rattle.records.proofs.wire.write_ids.Goals as goal

pub returns-then-out-ids : goal.returns-then-out-ids
unfolding write_outcome
returns-then-out-ids c =
    let a = c.args in
    let ids = a.ids.now in
    let l : length a.out.now < length (id_bytes ids) = rw length-id_bytes (omega arith) in
    rw (settle_short 0 0 (8 * length ids) (id_bytes ids) a.out.now refl l) (record { answered = refl; left = refl })

pub loop-at-init : goal.loop-at-init
unfolding overwrite id_bytes
loop-at-init c = refl

pub loop-at-preserved : goal.loop-at-preserved
loop-at-preserved c =
    let h = c.copy_from_slice.ensures.after in
    let e = c.to_le_bytes.ensures in
    let i = c.loop-at.invariant in
    rw i (id_turn c.args.ids.now c.args.out.now _ c.loop-at.at (omega arith) (h ∙ e ∙ bytes_8 _))

pub returns : goal.returns
unfolding write_outcome
returns c =
    let a = c.args in
    let ids = a.ids.now in
    let e : c.loop-at.at ≡ length ids = omega arith in
    let l : length (id_bytes ids) ≤ length a.out.now = rw length-id_bytes (omega arith) in
    rw (settle_gives 0 0 (8 * length ids) (id_bytes ids) a.out.now refl l)
    (record { answered = refl; left = rw (e, take-length) at c.loop-at.invariant })
