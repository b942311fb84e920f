-- A block of cells of one kind and how it is split (document 01, the end of 'To simplexes').
use Rattle.std.specs.Prelude.{ℕ, zero, suc, ◌+◌, ◌/◌, cond, List, [], ◌∷◌, length, take, drop}
use Rattle.base.specs.Solids.{is_solid}
use Rattle.base.specs.Kinds.{nodes_of}
use Rattle.base.specs.Checks.{block_refusal}
use Rattle.base.specs.Outcome.{Outcome, or_else, settle}
use Rattle.base.specs.declared.refusals.Answer.{Answer}
use Rattle.cuts.specs.Split.{split_count}
use Rattle.cuts.specs.Demand3.{Cell, splits}

-- the first n cells of a block, each of as many ids as the kind has nodes
unfoldable pub cells : ℕ → ℕ → List ℕ → List Cell
cells kind zero ids = []
cells kind (suc n) ids = record { kind = kind; ids = take (nodes_of kind) ids } ∷ cells kind n (drop (nodes_of kind) ids)

abbrev pub cells_of : ℕ → List ℕ → List Cell
cells_of kind ids = cells kind (length ids / nodes_of kind) ids

-- how many tetrahedra cells are cut into
unfoldable pub counts : List Cell → ℕ
counts [] = 0
counts (c ∷ cs) = split_count c.kind c.ids + counts cs

-- 1 to 4, and 6 where the kind does not fill space
unfoldable pub split_block_refusal : ℕ → List ℕ → ℕ
split_block_refusal kind ids = or_else (block_refusal kind ids) (cond (is_solid kind) 0 6)

-- what `split_block` answers, and what the lent output then holds: the cells' own answers, one after another
unfoldable pub split_block : ℕ → List ℕ → List ℕ → Outcome Answer (List ℕ)
split_block kind ids out =
    settle (split_block_refusal kind ids) 11 (counts (cells_of kind ids)) (splits (cells_of kind ids)) out
