-- `Face::normal` meets its contract: `from` is the point of the node that the next edge starts in, and the normal so far,
-- over the edges from there on, gives the whole cycle's.
use Rattle.std.proofs.Common.{◌≡◌, ℕ, ◌+◌, ◌-◌, ◌<◌, List, length, take, drop, refl, ap, ◌∙◌, ap₂, arith, length-take-le, length-drop}
use lib.Ieee.{of_bits}
use Rattle.faces.specs.Edges.{along}
use Rattle.winding.specs.declared.point.Vector.{Vector}
use Rattle.winding.specs.Points.{Point, point_at}
use Rattle.winding.specs.Space.{add_edge, normal_from, normal_of}
use Rattle.winding.proofs.Round.{head, behind_first, along_within, along_last}
use Rattle.winding.proofs.space.Face.normal.Goals as goal

length_behind : (l : List ℕ) → length (take (length l - 1) (drop 1 l)) ≡ length l - 1
length_behind l = length-take-le (length l - 1) (drop 1 l) (simp length-drop (omega arith))

pub loop-id-init : goal.loop-id-init
unfolding of_bits
loop-id-init c = (c.space_point-first.ensures, refl)

pub loop-id-preserved : goal.loop-id-preserved
unfolding normal_from
loop-id-preserved c =
    let i = c.loop-id.id-index in
    let ids = c.args.self.ids.now in
    let points = c.args.self.points.now in
    let in_list : i < length ids - 1 = rw length_behind at c.loop-id-test.true in
    let to = c.space_point-to.ensures ∙ ap (λ (k : ℕ). point_at points 3 k) (behind_first ids i in_list) in
    let e = c.add_edge-normal.ensures ∙ ap₂ (λ (p q : Point). add_edge c.loop-id.normal p q) c.loop-id.invariant.0 to in
    let more = along_within ids i (omega arith) in (
      to,
      ap (λ (v : Vector). normal_from points v (along (head ids) (drop (i + 1) ids))) e ∙ (rw more at c.loop-id.invariant.1),
    )

pub returns : goal.returns
unfolding normal_from normal_of
returns c =
    let i = c.loop-id.id-index in
    let ids = c.args.self.ids.now in
    let e = c.add_edge.ensures ∙ ap₂ (λ (p q : Point). add_edge c.loop-id.normal p q) c.loop-id.invariant.0 c.space_point-first.ensures in
    let last = along_last ids i (omega (arith, c.args.self.some, length_behind ids)) in
    e ∙ (rw last at c.loop-id.invariant.1)
