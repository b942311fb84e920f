-- `lent::copy` meets its contract: before turn i the first i entries are the list's, the others those at entry.
use borrow.Author.Rules.{rules}
use mathlib.Core.Path.{◌≡◌, ◌∙◌}
use native.Mathlib.Omega.{arith}
use lib.ListN.{length}
use Rattle.base.proofs.Lists.{front_more, front_whole}
use Rattle.base.proofs.lent.copy.Goals as goal

pub loop-at-preserved : goal.loop-at-preserved
loop-at-preserved c =
    rw c.loop-at.invariant
    (front_more c.args.list.now c.args.out.now c.loop-at.at (search rules) (omega arith))

pub returns : goal.returns
returns c =
    let e : c.loop-at.at ≡ length c.args.list.now = omega arith in
    c.loop-at.invariant ∙ front_whole _ _ _ e
