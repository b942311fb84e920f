-- `text::Writer::put_number` meets its contract: as many digits are spelled as the number has.
use Rattle.std.proofs.Common.{◌≡◌, ◌+◌, ◌-◌, ◌≤◌, length, take, drop, refl, sym, ap, arith, ◌∙◌, length-drop}
use lib.Seq.{length-take-le}
use Rattle.records.specs.Text.{decimal, places, spelled}
use Rattle.records.proofs.Decimals.{length-spelled}
use Rattle.records.proofs.Places.{put_part, length-put_part}
use Rattle.records.proofs.text.Writer.put_number.Goals as goal

pub returns : goal.returns
unfolding decimal
returns c =
    let w = c.args.self.now in
    let n = c.args.number in
    let k = c.places.result in
    let room : w.at + k ≤ length w.out.now = omega (arith, c.places.ensures.1) in
    let part : length (take (w.at + k - w.at) (drop w.at w.out.now)) ≡ w.at + k - w.at = length-take-le _ (drop w.at w.out.now) (rw length-drop (omega arith)) in
    let as_many : w.at + k - w.at ≡ places n = omega (arith, c.places.ensures.0) in
    let text : c.spell.new.bytes ≡ decimal n = c.spell.ensures ∙ ap (λ m. spelled m n) (part ∙ as_many) in
    let long : length (decimal n) ≡ w.at + k - w.at = length-spelled (places n) n ∙ sym as_many in
    record {
      left = rw text (put_part (decimal n) w.out.now w.at _ long);
      behind = rw length-spelled (omega (arith, c.places.ensures.0));
      few = omega (arith, c.places.ensures.1);
      long = rw text (length-put_part (decimal n) w.out.now w.at _ long (omega arith));
      same = refl;
    }
