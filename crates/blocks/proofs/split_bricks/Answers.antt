-- `split_bricks` meets its contract: the tetrahedra that there are find room, or nothing is written.
use borrow.Author.Tests.{leb-true, leb-false}
use mathlib.Core.Path.{refl, sym, ◌∙◌}
use Prim.Native.Nat.{◌/◌, ◌<◌, ◌≤◌}
use native.Mathlib.Omega.{arith}
use lib.ListN.{length}
use Rattle.base.specs.declared.kinds.Kind.TheVariants.{Tet4}
use Rattle.cuts.specs.Demand3.{splits}
use Rattle.simplexes.proofs.Settled.{gives_as, short_as}
use Rattle.blocks.specs.Blocks.{counts}
use Rattle.blocks.specs.Inner.Filled.{cells_by}
use Rattle.blocks.proofs.Parts.{bricks_ids}
use Rattle.blocks.proofs.split_bricks.Goals as goal

pub write_bricks-requires : goal.write_bricks-requires
write_bricks-requires c =
    let h : counts (cells_by 15 c.args.bricks.now) ≤ length c.args.out.now / 4 = leb-true _ _ (sym c.has_room.ensures ∙ c.if-has_room.true) in
    omega (arith, bricks_ids c.args.bricks.now)

pub returns-then-has_room : goal.returns-then-has_room
returns-then-has_room c =
    let h : counts (cells_by 15 c.args.bricks.now) ≤ length c.args.out.now / 4 = leb-true _ _ (sym c.has_room.ensures ∙ c.if-has_room.true) in
    let room : length (splits (cells_by 15 c.args.bricks.now)) ≤ length c.args.out.now = omega (arith, bricks_ids c.args.bricks.now) in
    gives_as _ _ _ _ _ (record { kind = Tet4; count = c.write_bricks.result }) _ refl room refl c.write_bricks.ensures.counted c.write_bricks.ensures.written

pub returns : goal.returns
returns c =
    let h : length c.args.out.now / 4 < counts (cells_by 15 c.args.bricks.now) = leb-false _ _ (sym c.has_room.ensures ∙ c.if-has_room.false) in
    let room : length c.args.out.now < length (splits (cells_by 15 c.args.bricks.now)) = omega (arith, bricks_ids c.args.bricks.now) in
    short_as _ _ _ _ _ refl room
