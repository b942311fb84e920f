-- `Face::looks_in` meets its contract, from what the functions that it calls ensure.
use Rattle.std.proofs.Common.{ap, ◌∙◌, ap₂}
use lib.Ieee.{Float, binary64, lt, mul, of_bits, round}
use Rattle.winding.specs.Points.{Point}
use Rattle.winding.specs.Space.{tolerance, dot_from, scale_of, looks_in}
use Rattle.winding.specs.declared.point.Vector.{Vector}
use Rattle.winding.proofs.space.Face.looks_in.Goals as goal

pub returns : goal.returns
unfolding looks_in of_bits round
returns c =
    let r = c.args.reference in
    ap₂ (λ (d s : Float). lt d (mul binary64 tolerance s))
    (c.dot_from.ensures ∙ ap₂ (λ (n : Vector) (p : Point). dot_from n p r) c.normal-normal.ensures c.space_point-first.ensures)
    (c.scale_of.ensures ∙ ap (λ (n : Vector). scale_of n) c.normal-normal.ensures)
