-- `split_tets` meets its contract: the tetrahedra are their own ids.
use mathlib.Core.Path.{◌≡◌, refl, sym, ◌∙◌, ap}
use mathlib.Core.List.{List}
use Prim.Native.Nat.{ℕ, ◌*◌, ◌/◌, ◌<◌, ◌≤◌}
use native.Mathlib.Omega.{arith}
use lib.ListN.{length, take}
use lib.Seq.{take-length}
use Rattle.base.specs.Kinds.{nodes_of}
use Rattle.base.specs.Outcome.{overwrite}
use Rattle.base.specs.declared.kinds.Kind.TheVariants.{Tet4}
use Rattle.cuts.specs.Demand3.{splits}
use Rattle.simplexes.proofs.Settled.{gives_as, short_as}
use Rattle.blocks.specs.Blocks.{cells_of, counts}
use Rattle.blocks.proofs.Parts.{tets_stay, tet_counts}
use Rattle.blocks.proofs.split_tets.Goals as goal

-- whole tetrahedra stay as they are
stay : (ids : List ℕ) → length ids / 4 * 4 ≡ length ids → splits (cells_of 11 ids) ≡ ids
unfolding nodes_of
stay ids e = tets_stay (length ids / 4) ids (omega arith) ∙ ap (λ (n : ℕ). take n ids) e ∙ take-length ids

counted : (ids : List ℕ) → length ids / 4 ≡ counts (cells_of 11 ids)
unfolding nodes_of
counted ids = sym (tet_counts (length ids / 4) ids)

pub returns-then-out-ids : goal.returns-then-out-ids
returns-then-out-ids c =
    let s = stay c.args.ids.now (omega arith) in
    let h : length c.args.out.now < length (splits (cells_of 11 c.args.ids.now)) = rw s (omega arith) in
    short_as _ _ _ _ _ refl h

pub returns : goal.returns
returns c =
    let s = stay c.args.ids.now (omega arith) in
    let h : length (splits (cells_of 11 c.args.ids.now)) ≤ length c.args.out.now = rw s (omega arith) in
    gives_as _ _ _ _ _ (record { kind = Tet4; count = length c.args.ids.now / 4 }) _ refl h refl (counted c.args.ids.now)
    (c.copy.ensures ∙ ap (λ (xs : List ℕ). overwrite xs c.args.out.now) (sym s))
