-- `point::any_without` meets its contract: each id that is passed has a point.
use Rattle.std.proofs.Common.{◌≡◌, drop}
use Rattle.winding.specs.Inner.Scan.{any_without}
use Rattle.winding.proofs.point.any_without.Given as goal

abbrev pub invariant-loop-id : goal.invariant-loop-id
invariant-loop-id l = any_without l.count (drop l.id-index l.ids) ≡ any_without l.count l.ids
