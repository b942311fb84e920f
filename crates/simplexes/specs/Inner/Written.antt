-- What a writer leaves in what it is lent.
use Rattle.std.specs.Prelude.{ℕ, ◌+◌, ◌≡◌, cond, eqb, List, length, take, drop, Result}
use Rattle.base.specs.Kinds.{nodes_of}
use Rattle.base.specs.Inner.Numbers.{answer_of}
use Rattle.base.specs.Outcome.{Permits, overwrite, settle}
use Rattle.base.specs.declared.refusals.Given.{Given}
use Rattle.base.specs.declared.refusals.Refusal.{Refusal}
use Rattle.cuts.specs.Split.{Cut, simplexes, split, split_count, split_kind}

-- a cut's simplexes of n nodes stand over the front of what out was, and count is their number
pub record Written (n : ℕ) (c : Cut) (out : List ℕ) (count : ℕ) (lent : List ℕ) : Type 0 where
  pub counted : count ≡ length c.rows
  pub written : lent ≡ overwrite (simplexes n c) out

-- a cut's simplexes of a kind are given, or find no room
abbrev pub CutInto : ℕ → Cut → List ℕ → Result Given Refusal → List ℕ → Type 0
CutInto kind c out result lent =
    Permits (settle 0 kind (length c.rows) (simplexes (nodes_of kind) c) out) (answer_of result) lent

-- a cell that no check refuses is split, or has no rule, or finds no room
abbrev pub SplitInto : ℕ → List ℕ → List ℕ → Result Given Refusal → List ℕ → Type 0
SplitInto kind ids out result lent =
    Permits (settle (cond (eqb (split_kind kind) 0) 6 0) (split_kind kind) (split_count kind ids) (split kind ids) out) (answer_of result) lent

-- what is done stands over the front of what out was; in the four entries behind it, filler may stand
pub record Ahead (done out lent : List ℕ) : Type 0 where
  pub front : take (length done) lent ≡ done
  pub rest : drop (length done + 4) lent ≡ drop (length done + 4) out
  pub long : length lent ≡ length out
