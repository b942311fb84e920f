-- `numbers::all_twice` meets its contract: the places from i on decide.
use Prim.Native.Nat.{◌-◌, ◌<◌}
use mathlib.Core.Path.{◌≡◌, sym, ◌∙◌}
use mathlib.Core.Bool.{false, true}
use borrow.Author.Tests.{eq-eqb, ne_eqb}
use native.Mathlib.Omega.{arith}
use lib.ListN.{length, get_or}
use Rattle.surfaces.specs.Inner.Numbers.{each_twice}
use Rattle.surfaces.proofs.Numbering.{twice_from}
use Rattle.surfaces.proofs.numbers.all_twice.Goals as goal

pub returns-then-counts-edge-ne2 : goal.returns-then-counts-edge-ne2
returns-then-counts-edge-ne2 g c =
    let e = c.args.edges.now in
    let i = c.loop-edge.edge-index in
    let h : i < length e = omega arith in
    sym (twice_from e i _ false h (c.requires.1 (get_or e i 0) (c.requires.0 i)) (ne_eqb _ 2 c.if-counts-edge-ne2.true)) ∙ c.loop-edge.invariant

pub loop-edge-preserved : goal.loop-edge-preserved
loop-edge-preserved g c =
    let e = c.args.edges.now in
    let i = c.loop-edge.edge-index in
    let h : i < length e = omega arith in
    sym (twice_from e i _ true h (c.requires.1 (get_or e i 0) (c.requires.0 i)) (eq-eqb _ 2 c.if-counts-edge-ne2.false)) ∙ c.loop-edge.invariant

pub returns : goal.returns
unfolding each_twice
returns g c =
    let z : length c.args.edges.now - c.loop-edge.edge-index ≡ 0 = omega arith in
    rw z at c.loop-edge.invariant
