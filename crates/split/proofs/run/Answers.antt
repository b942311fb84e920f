-- `run` meets its contract: a whole record's ids stand among the bytes in hand, in eights, and fit.
use Rattle.std.proofs.Common.{◌≡◌, ◌-◌, ◌≤◌, ◌∙◌, ap, length, take, drop, arith, length-take, length-drop}
use lib.Seq.{length-take-le}
use Rattle.records.proofs.Frames.{stands}
use Rattle.split.proofs.run.Goals as goal

pub part-requires : goal.part-requires
part-requires c =
    let i = c.frame.new.self in
    let s = stands (take i.to i.bytes.now) i.from _ _ _ _ c.in-Whole.ensures.in_hand in
    let size : length (take i.to i.bytes.now) ≤ i.to = rw length-take (omega arith) in
    record { ordered = omega (arith, s.eights); within = omega (arith, s.within) }

pub put_split-requires : goal.put_split-requires
put_split-requires c =
    let i = c.frame.new.self in
    let start = c.in-Whole.start in
    let next = c.in-Whole.next in
    let s = stands (take i.to i.bytes.now) i.from _ _ _ _ c.in-Whole.ensures.in_hand in
    let size : length (take i.to i.bytes.now) ≤ length i.bytes.now = rw length-take (omega arith) in
    let long : length c.part.result.now ≡ next - start =
    ap length c.part.ensures ∙ length-take-le (next - start) (drop start i.bytes.now) (rw length-drop (omega (arith, s.within))) in
    record { whole = omega (arith, s.eights, long); fits = omega (arith, s.eights, s.few, long) }

pub invariant_of-input : goal.invariant_of-input
invariant_of-input c =
    let i = c.frame.new.self in
    let s = stands (take i.to i.bytes.now) i.from _ _ _ _ c.in-Whole.ensures.in_hand in
    let size : length (take i.to i.bytes.now) ≤ i.to = rw length-take (omega arith) in
    record { ordered = omega (arith, s.within); within = omega arith }
