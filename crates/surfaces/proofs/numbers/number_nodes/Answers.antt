-- `numbers::number_nodes` meets its contract: before turn i the first i nodes have their numbers, and all are below 24.
use Prim.Native.Nat.{ℕ, ◌<◌}
use mathlib.Core.Path.{◌≡◌, ap, ◌∙◌}
use native.Mathlib.Omega.{arith}
use lib.ListN.{length, get_or, length-set}
use Rattle.base.specs.Kinds.{separator}
use Rattle.base.proofs.Picks.{within_default}
use Rattle.surfaces.specs.Inner.Numbers.{place_of}
use Rattle.surfaces.proofs.Numbering.{place_within, set_at}
use Rattle.surfaces.proofs.numbers.number_nodes.Goals as goal

pub loop-i-preserved : goal.loop-i-preserved
loop-i-preserved g c =
    let a = c.args in
    let n = c.loop-i.numbers in
    let i = c.loop-i.i in
    let here : i < length a.nodes.now = omega arith in
    let room : i < length n = omega arith in
    let is : c.number_of.result ≡ place_of a.nodes.now (get_or a.nodes.now i separator) =
    c.number_of.ensures ∙ ap (λ (x : ℕ). place_of a.nodes.now x) (within_default a.nodes.now i 0 separator here) in (
      λ m h. set_at n i c.number_of.result m (λ v. v ≡ place_of a.nodes.now (get_or a.nodes.now m separator)) room
          (λ q. rw q is) (λ q. c.loop-i.invariant.0 m (omega arith)),
      λ m. set_at n i c.number_of.result m (λ v. v < 24) room
          (λ q. omega (arith, is, place_within a.nodes.now i here)) (λ q. c.loop-i.invariant.1 m),
      simp length-set c.loop-i.invariant.2,
    )
