-- `sound_cycle` meets its contract: what it tests is what a cycle in the plane wants.
use Rattle.std.proofs.Common.{◌≡◌, ℕ, ◌≤◌, true, List, length, sym, ◌∙◌, arith}
use Rattle.std.specs.Prelude.{Float}
use Rattle.base.specs.Checks.{element_fits}
use Rattle.base.specs.Kinds.{element_limit, separator}
use Rattle.winding.specs.Inner.Scan.{Placed}
use Rattle.winding.specs.Points.{point_count, points_fit}
use Rattle.winding.specs.Plane.{wound_in_plane}
use Rattle.winding.specs.Reorient.{reorient_refusal, reoriented, turns_in_plane}
use Rattle.winding.proofs.Sound.{sound}
use Rattle.winding.proofs.Passed.{wound_plane}
use Rattle.winding.proofs.sound_cycle.Goals as goal

-- the tests, made of the kind and the points that were read
tested : (kind k dimension d : ℕ) (ids : List ℕ) (points numbers : List Float) → k ≡ kind → d ≡ dimension → numbers ≡ points
    → turns_in_plane k d ≡ true → points_fit dimension (length points) ≡ true → length ids ≤ element_limit → length points ≤ separator
    → element_fits k (length ids) ≡ true → Placed (point_count d (length numbers)) ids
    → (reorient_refusal kind ids dimension (length points) ≡ 0) × (wound_in_plane numbers ids ≡ reoriented kind ids dimension points)
tested kind k dimension d ids points numbers a b e turns even few small fits p =
    rw (e, ← a, ← b)
    (sound k ids d (length points) turns (rw (← b) at even) few small fits (rw e at p), wound_plane k ids d points turns)

pub returns-then-hold : goal.returns-then-hold
returns-then-hold c =
    let points = c.in-Ok-read.ensures in
    let t =
    tested _ _ _ _ c.args.ids.now _ _ c.in-Ok.ensures points.1 points.2
    (sym c.turns_in_plane.ensures ∙ c.if-turns_in_plane.true) points.0 c.if-ids-le-ELEMENT_LIMIT.true (omega arith)
    (sym c.element_fits.ensures ∙ c.if-element_fits.true) (c.hold.ensures c.if-hold.true) in
    (t.0, c.in-Ok.ensures, t.1)
