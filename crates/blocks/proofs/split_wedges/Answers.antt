-- `split_wedges` meets its contract: twelve ids a wedge find room, or nothing is written.
use mathlib.Core.Path.{refl, sym}
use Prim.Native.Nat.{◌*◌, ◌<◌, ◌≤◌}
use native.Mathlib.Omega.{arith}
use lib.ListN.{length}
use Rattle.base.specs.declared.kinds.Kind.TheVariants.{Tet4}
use Rattle.cuts.specs.Demand3.{splits}
use Rattle.simplexes.proofs.Settled.{gives_as, short_as}
use Rattle.blocks.specs.Inner.Filled.{cells_by}
use Rattle.blocks.proofs.Parts.{wedge_counts, wedges_ids}
use Rattle.blocks.proofs.split_wedges.Goals as goal

pub returns-then-out-wedges : goal.returns-then-out-wedges
returns-then-out-wedges c =
    let h : length c.args.out.now < length (splits (cells_by 13 c.args.wedges.now)) = omega (arith, wedges_ids c.args.wedges.now) in
    short_as _ _ _ _ _ refl h

pub write_wedges-requires : goal.write_wedges-requires
write_wedges-requires c = omega (arith, wedges_ids c.args.wedges.now)

pub returns : goal.returns
returns c =
    let h : length (splits (cells_by 13 c.args.wedges.now)) ≤ length c.args.out.now = omega (arith, wedges_ids c.args.wedges.now) in
    gives_as _ _ _ _ _ (record { kind = Tet4; count = length c.args.wedges.now * 3 }) _ refl h refl (sym (wedge_counts c.args.wedges.now)) c.write_wedges.ensures
