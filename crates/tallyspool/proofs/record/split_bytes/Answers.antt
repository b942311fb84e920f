-- `record::split_bytes` meets its contract: the ids that are read are all of them, and more than have room are refused.
use Rattle.std.proofs.Common.{◌≡◌, ◌/◌, ◌≤◌, refl, sym, ap, arith, length}
use lib.Seq.{length-take-le}
use Rattle.base.specs.Outcome.{refused}
use Rattle.base.proofs.Settle.{settle_refuses}
use Rattle.base.proofs.Numbers.{refusal_positive}
use Rattle.records.specs.Wire.{ids_in}
use Rattle.cuts.specs.Split.{split_refusal, to_simplexes}
use Rattle.records.proofs.Bytes.{read_count, read_front}
use Rattle.tallyspool.proofs.record.split_bytes.Goals as goal

pub returns-then-bytes-gt-HEX21_NODES : goal.returns-then-bytes-gt-HEX21_NODES
unfolding to_simplexes
returns-then-bytes-gt-HEX21_NODES c =
    let a = c.args in
    let ids = ids_in (length a.bytes.now / 8) a.bytes.now in
    let some : split_refusal a.kind ids ≡ 0 → ⊥ = λ none. omega (arith, none, c.long_refusal.ensures, refusal_positive c.long_refusal.result) in
    rw (settle_refuses _ _ _ _ _ some) (record { answered = ap refused c.long_refusal.ensures; left = refl })

pub unwrap-count-requires : goal.unwrap-count-requires
unwrap-count-requires c =
    rw (read_count _ _ _ _ c.read_ids.ensures c.requires.0 c.if-bytes-gt-HEX21_NODES.false)

pub slice_bounds-ids-end : goal.slice_bounds-ids-end
slice_bounds-ids-end c =
    let read = read_count _ _ _ _ c.read_ids.ensures c.requires.0 c.if-bytes-gt-HEX21_NODES.false in
    let count : c.unwrap-count.result ≡ length c.args.bytes.now / 8 = cc (read, c.unwrap-count.ensures) in
    omega (arith, count, c.if-bytes-gt-HEX21_NODES.false, c.read_ids.auto.out)

pub slice_bounds-to_simplexes-end : goal.slice_bounds-to_simplexes-end
slice_bounds-to_simplexes-end c =
    let read = read_count _ _ _ _ c.read_ids.ensures c.requires.0 c.if-bytes-gt-HEX21_NODES.false in
    let count : c.unwrap-count.result ≡ length c.args.bytes.now / 8 = cc (read, c.unwrap-count.ensures) in
    let room : c.unwrap-count.result ≤ length c.read_ids.new.out = omega (arith, count, c.if-bytes-gt-HEX21_NODES.false, c.read_ids.auto.out) in
    sym (length-take-le c.unwrap-count.result c.read_ids.new.out room)

pub returns : goal.returns
returns c =
    let read = read_count _ _ _ _ c.read_ids.ensures c.requires.0 c.if-bytes-gt-HEX21_NODES.false in
    let front = read_front _ _ _ _ c.read_ids.ensures c.requires.0 c.if-bytes-gt-HEX21_NODES.false in
    let count : c.unwrap-count.result ≡ length c.args.bytes.now / 8 = cc (read, c.unwrap-count.ensures) in
    rw (count, front) at c.to_simplexes.ensures
