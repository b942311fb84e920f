-- `text::Writer::put_bytes` meets its contract: what is written over a part of the buffer is put at its place.
use Rattle.std.proofs.Common.{◌≡◌, ◌+◌, ◌-◌, length, refl, arith}
use Rattle.records.proofs.Places.{put_part, length-put_part}
use Rattle.records.proofs.text.Writer.put_bytes.Goals as goal

pub returns : goal.returns
returns c =
    let w = c.args.self.now in
    let bytes = c.args.bytes.now in
    let e : length bytes ≡ w.at + length bytes - w.at = omega arith in
    record {
      left = rw c.copy_from_slice.ensures.after (put_part bytes w.out.now w.at _ e);
      behind = refl;
      few = omega arith;
      long = rw c.copy_from_slice.ensures.after (length-put_part bytes w.out.now w.at _ e (omega arith));
      same = refl;
    }
