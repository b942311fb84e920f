-- `Task::of` meets its contract: what is wound has a point for each id.
use Rattle.std.proofs.Common.{◌≡◌, sym, ◌∙◌, ap}
use Rattle.base.proofs.Accepted.{element_accepted}
use Rattle.winding.specs.declared.point.Dimension.{Dimension}
use Rattle.winding.specs.Inner.Tasks.{dimension_number}
use Rattle.winding.proofs.Passed.{none_lacks, placed_cycle}
use Rattle.winding.proofs.Task.of.Goals as goal

pub invariant_of-result : goal.invariant_of-result
invariant_of-result c =
    record { placed = placed_cycle _ _ _ _ c.requires (sym c.turns_in_plane.ensures ∙ c.if-turns_in_plane.true) c.in_ok-check.ensures }

pub invariant_of-result-in-Space-Phed : goal.invariant_of-result-in-Space-Phed
invariant_of-result-in-Space-Phed c =
    let space : dimension_number c.args.points.dimension ≡ 3 = ap (λ (d : Dimension). dimension_number d) c.in-Space-Phed.is-0 in
    record { few = (element_accepted _ _ c.requires).few; placed = rw space at (none_lacks _ c.in_ok-check-in-Space-Phed.ensures) }
