-- `surface::next_end` meets its contract: no edge between a and b starts at the places passed.
use mathlib.Core.Path.{sym, ◌∙◌}
use Rattle.faces.specs.Edges.{count}
use Rattle.surfaces.proofs.Flat.{none_from, pass}
use Rattle.surfaces.proofs.surface.next_end.Goals as goal

pub loop-i-preserved : goal.loop-i-preserved
loop-i-preserved c =
    let a = c.args in
    pass a.ids.now c.loop-i.i a.a a.b c.loop-i-test.true c.if-ids-i.false ∙ c.loop-i.invariant

pub returns : goal.returns
unfolding count
returns c = sym c.loop-i.invariant ∙ rw (none_from _ _ c.loop-i-test.false)
