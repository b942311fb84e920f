-- The split of one cell by value.
use Rattle.std.specs.Prelude.{ℕ, List, replicate}
use Rattle.base.specs.Outcome.{overwrite}
use Rattle.cuts.specs.Split.{split, split_count, split_kind}

-- the kind of the simplexes, 0 where there is no rule; their number; and their ids
pub record ByValue : Type 0 where
  pub kind : ℕ
  pub count : ℕ
  pub ids : List ℕ

-- its ids from the front of 24 places, 0 in those that are left
unfoldable pub split_cell : ℕ → List ℕ → ByValue
split_cell kind ids = record {
  kind = split_kind kind;
  count = split_count kind ids;
  ids = overwrite (split kind ids) (replicate 24 0);
}
