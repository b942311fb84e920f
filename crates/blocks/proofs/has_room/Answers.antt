-- `has_room` meets its contract: six a brick are no fewer than there are, and else they are counted.
use borrow.Author.Tests.{le-leb, lt-leb}
use mathlib.Core.Path.{◌≡◌, sym, ap}
use mathlib.Core.List.{List}
use Prim.Native.Nat.{ℕ, ◌+◌, ◌≤◌, ◌<◌}
use native.Mathlib.Nat.{zero-add}
use native.Mathlib.Omega.{arith}
use lib.ListN.{length, take}
use lib.Seq.{take-length}
use Rattle.blocks.specs.Blocks.{counts}
use Rattle.blocks.specs.Inner.Filled.{cells_by}
use Rattle.blocks.proofs.Parts.{counts_more, counts_part, hex_counts}
use Rattle.blocks.proofs.has_room.Goals as goal

pub returns-then-bricks-room : goal.returns-then-bricks-room
returns-then-bricks-room c =
    let h : counts (cells_by 15 c.args.bricks.now) ≤ c.args.room = omega (arith, hex_counts c.args.bricks.now) in
    sym (le-leb _ _ h)

pub loop-brick-init : goal.loop-brick-init
unfolding cells_by counts
loop-brick-init c = zero-add c.args.room

pub returns-then-left-count : goal.returns-then-left-count
returns-then-left-count c =
    let bs = c.args.bricks.now in
    let l = c.loop-brick in
    let h : c.args.room < counts (cells_by 15 bs) =
    omega (arith, counts_more 15 bs l.brick-index c.loop-brick-test.true, counts_part 15 bs (l.brick-index + 1), c.count_hex-count.ensures.0) in
    sym (lt-leb _ _ h)

pub loop-brick-preserved : goal.loop-brick-preserved
loop-brick-preserved c =
    omega (arith, counts_more 15 c.args.bricks.now c.loop-brick.brick-index c.loop-brick-test.true, c.count_hex-count.ensures.0)

pub returns : goal.returns
returns c =
    let bs = c.args.bricks.now in
    let l = c.loop-brick in
    let end : l.brick-index ≡ length bs = omega arith in
    let all : take l.brick-index bs ≡ bs = rw end (take-length bs) in
    let h : counts (cells_by 15 bs) ≤ c.args.room = omega (arith, l.invariant, ap (λ (xs : List (List ℕ)). counts (cells_by 15 xs)) all) in
    sym (le-leb _ _ h)
