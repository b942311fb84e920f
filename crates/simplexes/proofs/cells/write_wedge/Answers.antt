-- `cells::write_wedge` meets its contract: a wedge of six ids by its row of the table, any other by its corners.
use borrow.Author.Rules.{rules}
use mathlib.Core.Path.{◌≡◌, refl, sym, ◌∙◌, ap}
use mathlib.Core.List.{List}
use Prim.Native.Nat.{ℕ, ◌<◌, ◌≤◌}
use native.Mathlib.Omega.{arith}
use lib.ListN.{length}
use Rattle.base.specs.Gather.{pick}
use Rattle.base.specs.Kinds.{nodes_of}
use Rattle.base.specs.Outcome.{overwrite}
use Rattle.base.specs.declared.kinds.Kind.TheVariants.{Tet4}
use Rattle.cuts.specs.Split.{simplexes, wedge_cut}
use Rattle.cuts.proofs.Cuts.{length-simplexes, three_rows}
use Rattle.simplexes.proofs.Settled.{gives_as, short_as}
use Rattle.simplexes.proofs.cells.write_wedge.Goals as goal

-- a wedge's tetrahedra take twelve ids
twelve : (ids : List ℕ) → length (simplexes 4 (wedge_cut ids)) ≡ 12
twelve ids = omega (arith, length-simplexes 4 (wedge_cut ids), three_rows ids)

pub returns-then-out-lt-WEDGE_IDS : goal.returns-then-out-lt-WEDGE_IDS
unfolding nodes_of
returns-then-out-lt-WEDGE_IDS c =
    let h : length c.args.out.now < length (simplexes 4 (wedge_cut c.args.ids.now)) = omega (arith, twelve c.args.ids.now) in
    short_as _ _ _ _ _ refl h

pub write_wedge_row-requires-clause-ids_in_bounds : goal.write_wedge_row-requires-clause-ids_in_bounds
write_wedge_row-requires-clause-ids_in_bounds c = omega (arith, twelve c.in-Some.ids.now)

pub returns-in-Some : goal.returns-in-Some
unfolding nodes_of
returns-in-Some c =
    let ids = c.args.ids.now in
    let h : length (simplexes 4 (wedge_cut ids)) ≤ length c.args.out.now = omega (arith, twelve ids) in
    gives_as _ _ _ _ _ (record { kind = Tet4; count = 3 }) _ refl h refl (sym (three_rows ids))
    (rw c.in-Some.ensures.cases.same at c.write_wedge_row.ensures)

pub gather_digits-requires : goal.gather_digits-requires
gather_digits-requires c = let long : length c.wedge_corners.result.now ≡ 12 = search rules in omega arith

pub returns-in-None : goal.returns-in-None
unfolding nodes_of simplexes
returns-in-None c =
    let ids = c.args.ids.now in
    let h : length (simplexes 4 (wedge_cut ids)) ≤ length c.args.out.now = omega (arith, twelve ids) in
    gives_as _ _ _ _ _ (record { kind = Tet4; count = 3 }) _ refl h refl (sym (three_rows ids))
    (c.gather_digits.ensures ∙ ap (λ (row : List ℕ). overwrite (pick ids row) c.args.out.now) c.wedge_corners.ensures)
