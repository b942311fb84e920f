-- `surface::occurrences` meets its contract: what is counted and what is left to count add up to the whole.
use mathlib.Core.Path.{◌≡◌, refl, ◌∙◌}
use native.Mathlib.Omega.{arith}
use lib.ListN.{get_or}
use Rattle.base.specs.Kinds.{separator}
use Rattle.faces.specs.Edges.{edge, hits}
use Rattle.surfaces.specs.Inner.Places.{follower}
use Rattle.surfaces.proofs.Flat.{count_step, hit_any}
use Rattle.surfaces.proofs.Numbering.{byte_if, byte_few}
use Rattle.surfaces.proofs.surface.occurrences.Goals as goal

pub loop-i-preserved : goal.loop-i-preserved
loop-i-preserved c =
    let l = c.args.ids.now in
    let i = c.in-Some.i in
    let e = c.in-Some.ensures in
    let step = count_step l i e.1 (edge c.args.a c.args.b) in
    let h = hit_any c.args.a c.args.b (get_or l i separator) (follower l i) c.requires.0 c.requires.1 in
    let g : c.from-found.result ≡ hits (edge c.args.a c.args.b) (edge (get_or l i separator) (follower l i)) =
    c.from-found.ensures ∙ byte_if _ ∙ rw (c.same.ensures, c.node.ensures, c.follower.ensures) refl in
    (omega (arith, e, c.from-found.ensures, byte_few c.same.result), omega (arith, e, step, g, h))

pub returns : goal.returns
returns c = omega (arith, c.in_default.ensures)
