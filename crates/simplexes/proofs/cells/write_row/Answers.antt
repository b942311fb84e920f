-- `cells::write_row` meets its contract: a row has as many corners as ids that are gathered.
use mathlib.Core.Path.{refl}
use Prim.Native.Nat.{◌<◌, ◌≤◌}
use native.Mathlib.Omega.{arith}
use lib.ListN.{length}
use Rattle.base.specs.Gather.{pick, undigit}
use Rattle.base.proofs.Picks.{length-undigit}
use Rattle.simplexes.proofs.Settled.{gives_as, short_as}
use Rattle.simplexes.proofs.cells.write_row.Goals as goal

pub returns-then-out-row : goal.returns-then-out-row
returns-then-out-row c =
    let a = c.args in
    let h : length a.out.now < length (pick a.ids.now (undigit a.row.now)) = omega (arith, length-undigit a.ids.now a.row.now) in
    short_as _ _ _ _ _ refl h

pub returns : goal.returns
returns c =
    let a = c.args in
    let h : length (pick a.ids.now (undigit a.row.now)) ≤ length a.out.now = omega (arith, length-undigit a.ids.now a.row.now) in
    gives_as _ _ _ _ _ (record { kind = a.kind; count = a.count }) _ refl h refl refl c.gather_digits.ensures
