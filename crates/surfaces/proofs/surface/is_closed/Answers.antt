-- `surface::is_closed` meets its contract: the check of the edges left, with what was counted, decides.
use mathlib.Core.Path.{◌≡◌, refl, sym, ◌∙◌}
use mathlib.Core.Bool.{cond, not}
use lib.Dec.{eqb}
use lib.ListN.{get_or}
use Rattle.base.specs.Kinds.{separator}
use Rattle.base.proofs.Picks.{within_default}
use Rattle.surfaces.proofs.Numbering.{byte_if, byte_few}
use borrow.Author.Rules.{rules}
use native.Mathlib.Omega.{arith}
use Rattle.surfaces.proofs.Pairs.{paired, paired_twice}
use Rattle.surfaces.proofs.Flat.{flat-faces, paired_on, paired_off, none_from}
use Rattle.surfaces.proofs.surface.is_closed.Goals as goal

pub loop-i-init : goal.loop-i-init
loop-i-init c = (search rules, search rules, rw flat-faces (paired_twice _))

pub returns-then-later-gt1 : goal.returns-then-later-gt1
returns-then-later-gt1 c =
    let l = c.args.ids.now in
    sym (paired_off l c.loop-i.i c.loop-i-test.true c.loop-i.pairs c.loop-i.edges c.occurs_later-later.result c.occurs_later-later.ensures
    c.if-later-gt1.true)
    ∙ c.loop-i.invariant.2

pub loop-i-preserved : goal.loop-i-preserved
loop-i-preserved c =
    let l = c.args.ids.now in
    let i = c.loop-i.i in
    let one : c.from-edges.result ≡ cond (not (eqb (get_or l i separator) separator)) 1 0 =
    c.from-edges.ensures ∙ byte_if _ ∙ rw (within_default l i 0 separator c.loop-i-test.true) refl in (
      omega (arith, c.from-edges.ensures, byte_few (not (eqb (get_or l i 0) separator))),
      omega arith,
      sym (paired_on l i c.loop-i-test.true c.loop-i.pairs c.loop-i.edges c.occurs_later-later.result c.occurs_later-later.ensures
          c.from-edges.result one c.if-later-gt1.false)
          ∙ c.loop-i.invariant.2,
    )

pub returns : goal.returns
unfolding paired
returns c = rw (none_from _ _ c.loop-i-test.false) at c.loop-i.invariant.2
