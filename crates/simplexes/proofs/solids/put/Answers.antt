-- `solids::put` meets its contract: before turn i the first 4 * i entries are picked, the others those at entry.
use mathlib.Core.Path.{◌≡◌, ◌∙◌}
use mathlib.Core.List.{List}
use Prim.Native.Nat.{ℕ, ◌+◌, ◌*◌, ◌≤◌}
use native.Mathlib.Omega.{arith}
use lib.ListN.{length}
use lib.Seq.{length-take-le}
use Rattle.base.specs.Gather.{pick, undigit}
use Rattle.base.proofs.Lists.{front_whole}
use Rattle.base.proofs.Picks.{length-undigit}
use Rattle.simplexes.proofs.Laws.{front_next}
use Rattle.simplexes.proofs.solids.put.Invariants.{whole}
use Rattle.simplexes.proofs.solids.put.Goals as goal

whole_long : (fours : ℕ) (ids string : List ℕ) → fours * 4 ≤ length string → length (whole fours ids string) ≡ fours * 4
whole_long fours ids string h = length-take-le (fours * 4) (pick ids (undigit string)) (rw (length-undigit ids string) h)

pub loop-i-preserved : goal.loop-i-preserved
loop-i-preserved c =
    let a = c.args in
    let n = a.fours * 4 in
    let X = pick a.ids.now (undigit a.string.now) in
    let out = a.out.now in
    let k = c.loop-i.i * 4 in
    let long = whole_long a.fours a.ids.now a.string.now c.requires.0 in
    let o1 = front_next n X out k (k + 1) _ _ (omega arith) (omega (arith, long)) (omega arith) (omega arith) c.loop-i.invariant c.put_one.ensures in
    let o2 = front_next n X out (k + 1) (k + 2) _ _ (omega arith) (omega (arith, long)) (omega arith) (omega arith) o1 c.put_one-in-loop-i.ensures in
    let o3 = front_next n X out (k + 2) (k + 3) _ _ (omega arith) (omega (arith, long)) (omega arith) (omega arith) o2 c.put_one-in-loop-i-2.ensures in
    front_next n X out (k + 3) ((c.loop-i.i + 1) * 4) _ _ (omega arith) (omega (arith, long)) (omega arith) (omega arith) o3 c.put_one-in-loop-i-3.ensures

pub returns : goal.returns
returns c =
    let a = c.args in
    let e : c.loop-i.i * 4 ≡ length (whole a.fours a.ids.now a.string.now) =
    omega (arith, whole_long a.fours a.ids.now a.string.now c.requires.0) in
    c.loop-i.invariant ∙ front_whole _ _ _ e
