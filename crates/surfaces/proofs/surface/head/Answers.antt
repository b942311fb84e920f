-- `surface::head` meets its contract: the place before has the same first node, unless a separator stands there.
use Prim.Native.Nat.{◌+◌, ◌-◌}
use mathlib.Core.Path.{◌≡◌, sym, ◌∙◌}
use mathlib.Core.Bool.{false, true}
use borrow.Author.Tests.{eq-eqb, ne_eqb}
use native.Mathlib.Omega.{arith}
use lib.Dec.{eqb}
use lib.ListN.{get_or}
use Rattle.base.specs.Kinds.{separator}
use Rattle.surfaces.specs.Inner.Places.{head}
use Rattle.surfaces.proofs.Flat.{head_back}
use Rattle.surfaces.proofs.surface.head.Goals as goal

pub returns-then-node : goal.returns-then-node
returns-then-node c =
    let ids = c.args.ids.now in
    let t : eqb (get_or ids (c.loop-k.k - 1) separator) separator ≡ true = rw (← c.node.ensures) (eq-eqb _ _ c.if-node.true) in
    let k : c.loop-k.k - 1 + 1 ≡ c.loop-k.k = omega arith in
    c.node-then-node.ensures ∙ rw k (sym (head_back ids c.loop-k.k true c.loop-k-test.true t)) ∙ c.loop-k.invariant

pub loop-k-preserved : goal.loop-k-preserved
loop-k-preserved c =
    let ids = c.args.ids.now in
    let t : eqb (get_or ids (c.loop-k.k - 1) separator) separator ≡ false = rw (← c.node.ensures) (ne_eqb _ _ c.if-node.false) in
    sym (head_back ids c.loop-k.k false c.loop-k-test.true t) ∙ c.loop-k.invariant

pub returns : goal.returns
unfolding head
returns c =
    let z : c.loop-k.k ≡ 0 = omega arith in
    c.node-2.ensures ∙ (rw z at c.loop-k.invariant)
