-- `lent::gather_digits` meets its contract: before turn i the first i entries are picked, the others those at entry.
use borrow.Author.Rules.{rules}
use mathlib.Core.Path.{◌≡◌, ◌∙◌}
use Prim.Native.Nat.{◌<◌}
use native.Mathlib.Omega.{arith}
use lib.ListN.{length}
use Rattle.base.specs.Gather.{pick, undigit}
use Rattle.base.proofs.Lists.{front_more, front_whole}
use Rattle.base.proofs.Picks.{length-undigit, undigit_at}
use Rattle.base.proofs.lent.gather_digits.Goals as goal

pub loop-at-preserved : goal.loop-at-preserved
loop-at-preserved c =
    let a = c.args in
    let h : c.loop-at.at < length (pick a.ids.now (undigit a.row.now)) = rw length-undigit (search rules) in
    rw (c.loop-at.invariant, c.node.ensures, c.corner_of.ensures, ← undigit_at a.ids.now a.row.now c.loop-at.at (search rules))
    (front_more (pick a.ids.now (undigit a.row.now)) a.out.now c.loop-at.at h (omega arith))

pub returns : goal.returns
returns c =
    let a = c.args in
    let e : c.loop-at.at ≡ length (pick a.ids.now (undigit a.row.now)) = rw length-undigit (omega arith) in
    c.loop-at.invariant ∙ front_whole _ _ _ e
