-- `numbers::count` meets its contract: before turn i each number's count is how often it was met among the first i.
use Prim.Native.Nat.{◌+◌, ◌<◌, ◌≤◌}
use mathlib.Core.Path.{◌≡◌, refl, ◌∙◌}
use native.Mathlib.Omega.{arith}
use lib.ListN.{length, get_or, length-set}
use Rattle.surfaces.specs.Inner.Numbers.{met_in}
use Rattle.surfaces.proofs.Numbering.{met_hit, met_miss, set_at, zeros}
use Rattle.surfaces.proofs.numbers.count.Goals as goal

pub loop-edge-init : goal.loop-edge-init
unfolding met_in
loop-edge-init g c = (refl, λ n. omega (arith, zeros 768 n), λ n h. zeros 768 n)

pub loop-edge-preserved : goal.loop-edge-preserved
loop-edge-preserved g c =
    let e = c.args.edges.now in
    let i = c.loop-edge.edge-index in
    let counts = c.loop-edge.counts in
    let r = get_or e i 0 in
    let few = c.loop-edge.invariant.1 in
    let met-yet = c.loop-edge.invariant.2 in
    let small : r < 768 = c.requires.1 i in
    let room : r < length counts = omega (arith, c.loop-edge.invariant.0) in (
      simp length-set c.loop-edge.invariant.0,
      λ n. set_at counts r (get_or counts r 0 + 1) n (λ v. v ≤ i + 1) room (λ q. omega (arith, few r)) (λ q. omega (arith, few n)),
      λ n h. set_at counts r (get_or counts r 0 + 1) n (λ v. v ≡ met_in e n (i + 1)) room
          (λ q. rw (q, met-yet r small) (met_hit e r i refl))
          (λ q. met-yet n h ∙ met_miss e n i q),
    )
