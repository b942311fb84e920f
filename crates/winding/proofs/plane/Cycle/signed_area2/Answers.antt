-- `Cycle::signed_area2` meets its contract: `from` is the point of the node that the next edge starts in, and the sum so
-- far, over the edges from there on, gives the whole cycle's.
use Rattle.std.proofs.Common.{◌≡◌, ℕ, suc, ◌+◌, List, get_or, drop, sym, refl, ap, ◌∙◌, ap₂, add-one, arith}
use Rattle.std.specs.Prelude.{Float}
use lib.Ieee.{binary64, add, div, of_bits}
use Rattle.faces.specs.Edges.{along}
use Rattle.winding.specs.Points.{Point, point_at}
use Rattle.winding.specs.Plane.{two64, cross, area_from, signed_area2}
use Rattle.winding.proofs.Round.{head, nothing, along_within, along_last}
use Rattle.winding.proofs.plane.Cycle.signed_area2.Goals as goal

pub returns-in_default : goal.returns-in_default
unfolding of_bits area_from signed_area2 along div
returns-in_default c = rw (nothing c.args.self.ids.now c.in_default.ensures.cases)

pub loop-id-init : goal.loop-id-init
unfolding of_bits
loop-id-init c =
    (c.plane_point-first.ensures ∙ ap (λ (l : List ℕ). point_at c.args.self.points.now 2 (get_or l 0 0)) (sym c.in-Some.ensures.cases.0), refl)

pub plane_point-to-requires : goal.plane_point-to-requires
plane_point-to-requires c =
    let i = c.loop-id.id-index in
    let ids = c.args.self.ids.now in
    let node : get_or ids (i + 1) 0 ≡ get_or c.in-Some.rest.now i 0 =
    rw add-one (ap (λ (l : List ℕ). get_or l (suc i) 0) c.in-Some.ensures.cases.0) in
    rw node at (c.args.self.placed (i + 1) (omega (arith, c.in-Some.ensures.cases.1)))

pub loop-id-preserved : goal.loop-id-preserved
unfolding area_from
loop-id-preserved c =
    let i = c.loop-id.id-index in
    let ids = c.args.self.ids.now in
    let points = c.args.self.points.now in
    let node : get_or ids (i + 1) 0 ≡ get_or c.in-Some.rest.now i 0 =
    rw add-one (ap (λ (l : List ℕ). get_or l (suc i) 0) c.in-Some.ensures.cases.0) in
    let to = c.plane_point-to.ensures ∙ ap (λ (k : ℕ). point_at points 2 k) (sym node) in
    let e = c.cross-area2.ensures ∙ ap₂ (λ (p q : Point). cross p q) c.loop-id.invariant.0 to in
    let more = along_within ids i (omega (arith, c.in-Some.ensures.cases.1)) in (
      to,
      ap (λ (v : Float). area_from points (add binary64 c.loop-id.area2 v) (along (head ids) (drop (i + 1) ids))) e
          ∙ (rw more at c.loop-id.invariant.1),
    )

pub returns : goal.returns
unfolding of_bits area_from signed_area2
returns c =
    let i = c.loop-id.id-index in
    let ids = c.args.self.ids.now in
    let points = c.args.self.points.now in
    let first = c.plane_point-first.ensures ∙ ap (λ (l : List ℕ). point_at points 2 (get_or l 0 0)) (sym c.in-Some.ensures.cases.0) in
    let e = c.cross.ensures ∙ ap₂ (λ (p q : Point). cross p q) c.loop-id.invariant.0 first in
    let last = along_last ids i (omega (arith, c.in-Some.ensures.cases.1)) in
    ap (λ (sum : Float). div binary64 sum two64)
    (ap (λ (v : Float). add binary64 c.loop-id.area2 v) e ∙ (rw last at c.loop-id.invariant.1))
