-- A lent output with the tetrahedra of cells at its front.
use Rattle.std.specs.Prelude.{ℕ, ◌≡◌, List, [], ◌∷◌, Result, Ok, Err}
use Rattle.base.specs.Inner.Numbers.{refusal_number}
use Rattle.base.specs.Outcome.{Permits, given, overwrite, refused, settle}
use Rattle.base.specs.declared.refusals.Answer.{Answer}
use Rattle.base.specs.declared.refusals.Refusal.{Refusal}
use Rattle.cuts.specs.Demand3.{Cell, splits}
use Rattle.blocks.specs.Blocks.{counts}

-- cells of one kind, each by its ids
unfoldable pub cells_by : ℕ → List (List ℕ) → List Cell
cells_by kind [] = []
cells_by kind (ids ∷ more) = record { kind = kind; ids = ids } ∷ cells_by kind more

-- the tetrahedra of cells stand over the front of what out was, and count is their number
pub record Filled (cs : List Cell) (out : List ℕ) (count : ℕ) (lent : List ℕ) : Type 0 where
  pub counted : count ≡ counts cs
  pub written : lent ≡ overwrite (splits cs) out

-- what a number of tetrahedra, or a refusal, is to C
abbrev pub tets_of : Result ℕ Refusal → Answer
tets_of (Ok count) = given 11 count
tets_of (Err refusal) = refused (refusal_number refusal)

-- cells that no check refuses are split, or find no room
abbrev pub Splits : List Cell → List ℕ → Result ℕ Refusal → List ℕ → Type 0
Splits cs out result lent = Permits (settle 0 11 (counts cs) (splits cs) out) (tets_of result) lent
