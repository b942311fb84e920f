-- What the contracts of the judging functions say: dimensions and tasks as the definitions have them.
use Rattle.std.specs.Prelude.{◌≡◌, ℕ, true, false, cond, ◌||◌, List, length, Result, Ok, Err, ◌==◌, Float}
use Rattle.base.specs.Inner.Numbers.{number_of, refusal_number}
use Rattle.base.specs.declared.kinds.Kind.{Kind}
use Rattle.base.specs.declared.refusals.Refusal.{Refusal}
use Rattle.base.specs.declared.refusals.Refusal.TheVariants.{WrongPoints}
use Rattle.winding.specs.declared.Task.{Task}
use Rattle.winding.specs.declared.Task.TheVariants.{Copied, InPlane, InSpace}
use Rattle.winding.specs.declared.point.Dimension.{Dimension}
use Rattle.winding.specs.declared.point.Dimension.TheVariants.{Plane, Space}
use Rattle.winding.specs.declared.point.Points.{Points}
use Rattle.winding.specs.Points.{points_fit}
use Rattle.winding.specs.Plane.{wound_in_plane}
use Rattle.winding.specs.Space.{wound_in_space}
use Rattle.winding.specs.Reorient.{has_no_rule, wants_point, reorient_refusal, reoriented}

-- the number of a dimension
abbrev pub dimension_number : Dimension → ℕ
dimension_number Plane = 2
dimension_number Space = 3

-- the dimension of a number, or 20
abbrev pub IsOfDimension : ℕ → Result Dimension Refusal → Type 0
IsOfDimension number (Ok dimension) = dimension_number dimension ≡ number
IsOfDimension number (Err refusal) = (refusal ≡ WrongPoints) × ((number == 2 || number == 3) ≡ false)

-- the points of a list of numbers, or 20
abbrev pub PointsUnless : ℕ → List Float → Result Points Refusal → Type 0
PointsUnless dimension numbers (Ok points) =
    (points_fit dimension (length numbers) ≡ true) × (dimension_number points.dimension ≡ dimension) × (points.numbers.now ≡ numbers)
PointsUnless dimension numbers (Err refusal) = (points_fit dimension (length numbers) ≡ false) × (refusal ≡ WrongPoints)

-- what a task gives
abbrev pub done_of : Task → List ℕ
done_of (Copied ids) = ids.now
done_of (InPlane cycle) = wound_in_plane cycle.points.now cycle.ids.now
done_of (InSpace solid) = wound_in_space solid.points.now solid.ids.now

-- the refusals that follow on 20
abbrev pub rule_refusal : ℕ → List ℕ → ℕ → ℕ → ℕ
rule_refusal kind ids dimension n = cond (has_no_rule kind dimension) 6 (cond (wants_point kind ids dimension n) 19 0)

-- a task that gives the answer, or one of those refusals
abbrev pub TaskOf : ℕ → List ℕ → ℕ → List Float → Result Task Refusal → Type 0
TaskOf kind ids dimension points (Ok task) =
    (rule_refusal kind ids dimension (length points) ≡ 0) × (done_of task ≡ reoriented kind ids dimension points)
TaskOf kind ids dimension points (Err refusal) = rule_refusal kind ids dimension (length points) ≡ refusal_number refusal

-- the kind of a number, and a task that gives the answer: nothing refuses
abbrev pub IsTask : ℕ → List ℕ → ℕ → List Float → Kind × Task → Type 0
IsTask kind ids dimension points found =
    (reorient_refusal kind ids dimension (length points) ≡ 0) × (number_of found.0 ≡ kind)
    × (done_of found.1 ≡ reoriented kind ids dimension points)

-- those, or the refusal
abbrev pub TaskUnless : ℕ → List ℕ → ℕ → List Float → Result (Kind × Task) Refusal → Type 0
TaskUnless kind ids dimension points (Ok found) = IsTask kind ids dimension points found
TaskUnless kind ids dimension points (Err refusal) = reorient_refusal kind ids dimension (length points) ≡ refusal_number refusal
