-- `smallest::smallest` meets its contract: before turn i `best` is the first place of the smallest of the first i ids,
-- and `least` is the id there.
use mathlib.Core.Path.{◌≡◌, sym, ◌∙◌, ap}
use native.Mathlib.Omega.{arith}
use lib.ListN.{get_or}
use Rattle.base.specs.Kinds.{separator}
use Rattle.base.proofs.Picks.{within_default}
use Rattle.simplexes.proofs.Scan.{scan_start, scan_new, scan_keep, scan_end}
use Rattle.simplexes.proofs.smallest.smallest.Goals as goal
use Rattle.simplexes.proofs.smallest.smallest.Goals.{then-id-least, else-id-least}

pub loop-i-init : goal.loop-i-init
loop-i-init c = (scan_start _, λ h. c.node-least.ensures ∙ within_default c.args.ids.now 0 separator 0 h)

pub loop-i-preserved : goal.loop-i-preserved
loop-i-preserved c =
    let ids = c.args.ids.now in
    let s = c.loop-i.invariant.0 in
    let h = c.loop-i-test.true in
    let e : c.loop-i.least ≡ get_or ids c.loop-i.best 0 = c.loop-i.invariant.1 (omega arith) in
    elim c.if-id-least.branch [
      | then-id-least w ↦ (
        rw w.best-is (scan_new ids c.loop-i.best c.loop-i.i s h (rw e at w.if-id-least.true)),
        λ _. (w.least-is ∙ ap (λ k. get_or ids k 0) (sym w.best-is)),
      )
      | else-id-least w ↦ (
        rw w.best-is (scan_keep ids c.loop-i.best c.loop-i.i s h (rw e at w.if-id-least.false)),
        λ _. (w.least-is ∙ e ∙ ap (λ k. get_or ids k 0) (sym w.best-is)),
      )
    ]

pub returns : goal.returns
returns c = scan_end _ _ _ c.loop-i.invariant.0 c.loop-i-test.false
