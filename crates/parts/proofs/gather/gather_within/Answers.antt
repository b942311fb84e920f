-- `gather::gather_within` meets its contract: before turn i the first i entries are picked, the others those at entry.
use borrow.Author.Rules.{rules}
use mathlib.Core.Path.{◌≡◌, ◌∙◌}
use Prim.Native.Nat.{◌<◌}
use native.Mathlib.Omega.{arith}
use lib.ListN.{length}
use Rattle.base.specs.Gather.{pick, undigit}
use Rattle.base.proofs.Lists.{front_more, front_whole}
use Rattle.base.proofs.Picks.{length-undigit, undigit_at}
use Rattle.parts.proofs.Fitting.{fits_at}
use Rattle.parts.proofs.gather.gather_within.Goals as goal

pub node_within-requires : goal.node_within-requires
node_within-requires c = fits_at _ c.args.row.now c.loop-place.place c.requires.row_value (search rules)

pub loop-place-preserved : goal.loop-place-preserved
loop-place-preserved c =
    let a = c.args in
    let h : c.loop-place.place < length (pick a.ids.now (undigit a.row.now)) = rw length-undigit (search rules) in
    rw (c.loop-place.invariant, c.node_within.ensures, ← undigit_at a.ids.now a.row.now c.loop-place.place (search rules))
    (front_more (pick a.ids.now (undigit a.row.now)) a.out.now c.loop-place.place h (omega arith))

pub returns : goal.returns
returns c =
    let a = c.args in
    let e : c.loop-place.place ≡ length (pick a.ids.now (undigit a.row.now)) = rw length-undigit (omega arith) in
    c.loop-place.invariant ∙ front_whole _ _ _ e
