-- `split_cells` meets its contract: the cells of a block are its chunks, and no other kind fills space.
use borrow.Author.Rules.{rules}
use mathlib.Core.Path.{◌≡◌, refl, sym, ◌∙◌, ap}
use mathlib.Core.Bool.{true, false}
use mathlib.Core.List.{List}
use Prim.Native.Nat.{ℕ, ◌/◌}
use native.Mathlib.Omega.{arith}
use lib.ListN.{length}
use Rattle.base.specs.Checks.{block_refusal}
use Rattle.base.specs.Kinds.{nodes_of}
use Rattle.base.specs.Inner.Numbers.{number_of}
use Rattle.base.specs.Outcome.{settle}
use Rattle.base.specs.Solids.{is_solid}
use Rattle.base.specs.declared.kinds.Kind.{Kind}
use Rattle.base.specs.declared.kinds.Kind.TheVariants.{Tet4, Wedge6, Hex8}
use Rattle.base.specs.declared.refusals.Refusal.TheVariants.{NoRule}
use Rattle.base.proofs.Accepted.{block_nodes}
use Rattle.cuts.specs.Demand3.{splits}
use Rattle.simplexes.proofs.Settled.{refuses_as}
use Rattle.blocks.specs.Blocks.{cells_of, counts, split_block, split_block_refusal}
use Rattle.blocks.specs.Inner.Filled.{cells_by}
use Rattle.blocks.proofs.Parts.{by_chunks}
use Rattle.blocks.proofs.split_cells.Goals as goal

-- a block that no check refuses, of a kind that fills space
outcome : (kind : ℕ) (ids out : List ℕ) → block_refusal kind ids ≡ 0 → is_solid kind ≡ true
    → split_block kind ids out ≡ settle 0 11 (counts (cells_of kind ids)) (splits (cells_of kind ids)) out
unfolding split_block split_block_refusal
outcome kind ids out h s = rw (h, s)

not_solid : (kind : Kind) → (kind ≡ Tet4 → ⊥) → (kind ≡ Wedge6 → ⊥) → (kind ≡ Hex8 → ⊥) → is_solid (number_of kind) ≡ false
not_solid kind a b c = search rules

pub split_tets-requires : goal.split_tets-requires
unfolding nodes_of
split_tets-requires c =
    let k : number_of c.args.kind ≡ 11 = rw c.in-Tet4.is in
    block_nodes 11 c.args.ids.now (rw k at c.requires) (λ e. absurd (omega (arith, e)))

pub returns-in-Tet4 : goal.returns-in-Tet4
returns-in-Tet4 c =
    let k : number_of c.args.kind ≡ 11 = rw c.in-Tet4.is in
    rw (k, outcome 11 c.args.ids.now c.args.out.now (rw k at c.requires) refl) c.split_tets.ensures

pub returns-in-Wedge6 : goal.returns-in-Wedge6
unfolding nodes_of
returns-in-Wedge6 c =
    let k : number_of c.args.kind ≡ 13 = rw c.in-Wedge6.is in
    let ids = c.args.ids.now in
    let e : cells_of 13 ids ≡ cells_by 13 c.as_chunks.result.0.now = by_chunks 13 (length ids / 6) ids ∙ ap (cells_by 13) (sym c.as_chunks.ensures.front) in
    rw (k, outcome 13 ids c.args.out.now (rw k at c.requires) refl, e) c.split_wedges.ensures

pub returns-in-Hex8 : goal.returns-in-Hex8
unfolding nodes_of
returns-in-Hex8 c =
    let k : number_of c.args.kind ≡ 15 = rw c.in-Hex8.is in
    let ids = c.args.ids.now in
    let e : cells_of 15 ids ≡ cells_by 15 c.as_chunks-in-Hex8.result.0.now = by_chunks 15 (length ids / 8) ids ∙ ap (cells_by 15) (sym c.as_chunks-in-Hex8.ensures.front) in
    rw (k, outcome 15 ids c.args.out.now (rw k at c.requires) refl, e) c.split_bricks.ensures

pub returns-in_default : goal.returns-in_default
unfolding split_block split_block_refusal
returns-in_default c =
    let r = c.in_default in
    refuses_as _ _ _ _ _ NoRule (rw (c.requires, not_solid c.args.kind r.not-Tet4 r.not-Wedge6 r.not-Hex8))
