-- `numbers::number_edges` meets its contract: before turn i the first i edges have their numbers, and all are below 768.
use Prim.Native.Nat.{◌<◌}
use mathlib.Core.Path.{◌≡◌}
use native.Mathlib.Omega.{arith}
use lib.ListN.{length, length-set}
use Rattle.surfaces.specs.Inner.Numbers.{edge_number}
use Rattle.surfaces.proofs.Numbering.{set_at}
use Rattle.surfaces.proofs.numbers.number_edges.Goals as goal

pub loop-i-preserved : goal.loop-i-preserved
loop-i-preserved g c =
    let a = c.args in
    let e = c.loop-i.edges in
    let i = c.loop-i.i in
    let room : i < length e = omega arith in (
      λ m h. set_at e i c.pair.result m (λ v. v ≡ edge_number a.numbers.now a.next.now m) room
          (λ q. rw q c.pair.ensures.0) (λ q. c.loop-i.invariant.0 m (omega arith)),
      λ m. set_at e i c.pair.result m (λ v. v < 768) room (λ q. c.pair.ensures.1) (λ q. c.loop-i.invariant.1 m),
      simp length-set c.loop-i.invariant.2,
    )
