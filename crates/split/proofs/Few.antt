-- The split of any cell is few simplexes of few nodes, so that its text is short.
use mathlib.Core.Path.{◌≡◌, refl}
use mathlib.Core.Bool.{Bool, true, false}
use mathlib.Core.List.{List}
use Prim.Native.Nat.{ℕ, ◌*◌, ◌≤◌}
use native.Mathlib.Omega.{arith}
use lib.Dec.{eqb}
use lib.ListN.{replicate}
use borrow.Author.Tests.{eqb-true, eqb-false}
use Rattle.base.specs.Kinds.{nodes_of}
use Rattle.base.specs.declared.refusals.Answer.{Answer}
use Rattle.base.proofs.Settle.{settle_refuses, settle_gives}
use Rattle.cuts.specs.Split.{split, split_kind, split_count, split_refusal, to_simplexes}
use Rattle.cuts.proofs.Cuts.{rows_most, nodes_most, split-length, split_most}

-- at most six simplexes of at most four nodes, all within 24 places
pub record Few (answer : Answer) : Type 0 where
  pub slim : nodes_of answer.kind ≤ 4
  pub few : answer.count ≤ 6
  pub within : answer.count * nodes_of answer.kind ≤ 24

pub split_few : (kind : ℕ) (ids : List ℕ) → Few (to_simplexes kind ids (replicate 24 0)).answer
unfolding to_simplexes split_count nodes_of
split_few kind ids = go (eqb (split_refusal kind ids) 0) refl
  where
    go : (b : Bool) → eqb (split_refusal kind ids) 0 ≡ b → Few (to_simplexes kind ids (replicate 24 0)).answer
    go true e =
        rw (settle_gives (split_refusal kind ids) (split_kind kind) (split_count kind ids) (split kind ids) (replicate 24 0) (eqb-true _ 0 e) (split_most kind ids))
        (record { slim = nodes_most kind; few = rows_most kind ids; within = rw (split-length kind ids) at (split_most kind ids) })
    go false e =
        rw (settle_refuses (split_refusal kind ids) (split_kind kind) (split_count kind ids) (split kind ids) (replicate 24 0) (eqb-false _ 0 e))
        (record { slim = omega arith; few = omega arith; within = omega arith })
