-- A row that is written whole although only its front counts.
use mathlib.Core.Path.{◌≡◌, sym, ◌∙◌, ap}
use mathlib.Core.List.{List}
use Prim.Native.Nat.{ℕ, ◌+◌, ◌-◌, ◌≤◌}
use native.Mathlib.Omega.{arith}
use lib.ListN.{length, take, drop, length-take}
use lib.Seq.{take-append-le, drop-append-add, drop-drop}
use Rattle.base.specs.Outcome.{overwrite}
use Rattle.base.proofs.Lists.{length-overwrite}
use Rattle.simplexes.specs.Inner.Written.{Ahead}

-- where at most four of its entries do not count
pub row_ahead : (row done out : List ℕ) → length row ≤ length out → take (length done) row ≡ done → length row ≤ length done + 4
    → Ahead done out (overwrite row out)
unfolding overwrite
row_ahead row done out fits e few =
    let long : length done ≤ length row = omega (arith, sym (ap length e) ∙ length-take (length done) row) in
    let over : ℕ = length done + 4 - length row in
    let end : length done + 4 ≡ length row + over = omega arith in
    record {
      front = take-append-le (length done) row (drop (length row) out) long ∙ e;
      rest = rw end (drop-append-add row (drop (length row) out) over ∙ drop-drop over (length row) out);
      long = length-overwrite row out fits;
    }
