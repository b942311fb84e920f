-- `text::places` meets its contract: the logarithm is that of the power which the number reaches, and of no greater one.
use Rattle.std.proofs.Common.{arith, ◌≤◌, ◌<◌, ◌^◌, add-one, sym, rules}
use native.Mathlib.Nat.{pow-succ', pow-le-pow_right}
use Rattle.records.proofs.Decimals.{places-by_power}
use Rattle.records.proofs.text.places.Goals as goal

pub returns : goal.returns
returns c =
    let n = c.args.number in
    let k = c.ilog10.result in
    let m = c.max.ensures in
    let low = c.ilog10.ensures.power_le in
    let high = c.ilog10.ensures.next_power_gt in
    let next = pow-succ' 10 k in
    let reached : 0 < k → 10 ^ k ≤ n = λ h. (let ten : 10 ^ 1 ≤ 10 ^ k = pow-le-pow_right (omega arith) h in omega arith) in
    (rw add-one (sym (places-by_power k n (search rules) reached (omega arith))), omega (arith, c.ilog10.ensures.bound))
