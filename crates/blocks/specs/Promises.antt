-- What the outcome of a block promises: no slit, a count of what is written, and a block that may be cut anywhere.
use Rattle.std.specs.Prelude.{ℕ, ◌+◌, ◌*◌, ◌%◌, ◌≡◌, List, ◌++◌, length, take, drop}
use Rattle.base.specs.Kinds.{nodes_of}
use Rattle.base.specs.Outcome.{Permits}
use Rattle.base.specs.declared.refusals.Answer.{Answer}
use Rattle.cuts.specs.Triangle.{Tri, total, tet_tris}
use Rattle.cuts.specs.Demand3.{AllProper, splits, outsides}
use Rattle.blocks.specs.Blocks.{cells_of, split_block}

-- for every block that is split, answered with r, with this left in what was lent
pub record Promises (kind : ℕ) (ids out : List ℕ) (r : Answer) (lent : List ℕ) : Type 0 where
  -- as many tetrahedra as the count says stand at the front: the cells' own answers, one after another
  pub written : take (r.count * 4) lent ≡ splits (cells_of kind ids)
  -- what lies behind them is as it was
  pub kept : drop (r.count * 4) lent ≡ drop (r.count * 4) out
  -- demand 3 of the output itself
  pub no_slit : AllProper (cells_of kind ids) → (t : Tri) → total t (tet_tris (take (r.count * 4) lent)) ≡ total t (outsides (cells_of kind ids))

abbrev pub Kept : Type 0
Kept =
    (kind : ℕ) (ids out : List ℕ) (r : Answer) (lent : List ℕ)
    → Permits (split_block kind ids out) r lent → r.refusal ≡ 0 → Promises kind ids out r lent

-- a block of xs and then ys, cut between two cells: the whole is written where the first part is written over the front
-- of out, and the second into the part that is then free
pub record Halves (kind : ℕ) (xs ys out : List ℕ) : Type 0 where
  pub first : (split_block kind xs out).answer.refusal ≡ 0
  pub second : (split_block kind ys (drop ((split_block kind xs out).answer.count * 4) (split_block kind xs out).lent)).answer.refusal ≡ 0
  pub counted : (split_block kind (xs ++ ys) out).answer.count
      ≡ (split_block kind xs out).answer.count
      + (split_block kind ys (drop ((split_block kind xs out).answer.count * 4) (split_block kind xs out).lent)).answer.count
  pub written : (split_block kind (xs ++ ys) out).lent
      ≡ take ((split_block kind xs out).answer.count * 4) (split_block kind xs out).lent
      ++ (split_block kind ys (drop ((split_block kind xs out).answer.count * 4) (split_block kind xs out).lent)).lent

abbrev pub CutAnywhere : Type 0
CutAnywhere =
    (kind : ℕ) (xs ys out : List ℕ)
    → (split_block kind (xs ++ ys) out).answer.refusal ≡ 0 → length xs % nodes_of kind ≡ 0 → Halves kind xs ys out
