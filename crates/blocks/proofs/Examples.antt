-- Blocks of every outcome, and what split_block answers to them.
use Prim.Native.Nat.{ℕ}
use mathlib.Core.Path.{◌≡◌, refl}
use mathlib.Core.List.{List, [], ◌∷◌, ◌++◌, map}
use lib.ListN.{replicate}
use Rattle.base.specs.Kinds.{separator, nodes_of}
use Rattle.base.specs.Checks.{block_refusal, input_refusal, block_fits, strays, holds_separator}
use Rattle.base.specs.Gather.{pick, digits, corners}
use Rattle.base.specs.Outcome.{Outcome, decide, settle, settle_one, overwrite, given, refused}
use Rattle.base.specs.declared.refusals.Answer.{Answer}
use Rattle.cuts.specs.Split.{cut, simplexes, split, split_count, split_kind}
use Rattle.blocks.specs.Blocks.{cells, counts, split_block, split_block_refusal}

-- a kind, the ids of a block, and as many entries of 9 lent; what is then answered, and what was lent then holds
pub record Example : Type 0 where
  pub kind : ℕ
  pub ids : List ℕ
  pub lent : ℕ
  pub outcome : Outcome Answer (List ℕ)

abbrev room : ℕ → List ℕ
room n = replicate n 9

abbrev gives : ℕ → List ℕ → ℕ → ℕ → List ℕ → Example
gives kind ids lent count out =
    record { kind = kind; ids = ids; lent = lent; outcome = record { answer = given 11 count; lent = out } }

abbrev refuses : ℕ → List ℕ → ℕ → ℕ → Example
refuses kind ids lent why =
    record { kind = kind; ids = ids; lent = lent; outcome = record { answer = refused why; lent = room lent } }

-- the brick of five and that of six, one after another
abbrev bricks : List ℕ
bricks = digits 8 04256173 ++ digits 8 01234567

abbrev pub examples : List Example
examples =
    -- an empty block succeeds
    gives 11 [] 2 0 (room 2)
    ∷ gives 15 [] 0 0 []
    -- each cell's answer stands behind the one before it, and what lies behind the last stays
    ∷ gives 11 (digits 8 01237654) 9 2 (digits 8 01237654 ++ room 1)
    ∷ gives 13 (digits 6 012345 ++ digits 6 012345) 24 6
    (corners 4 (0453 ∷ 0154 ∷ 0512 ∷ 0453 ∷ 0154 ∷ 0512 ∷ []))
    ∷ gives 15 bricks 45 11
    (corners 4 (0136 ∷ 0421 ∷ 2731 ∷ 0253 ∷ 0123 ∷ []) ++ corners 4 (0564 ∷ 0126 ∷ 0165 ∷ 0674 ∷ 0237 ∷ 0276 ∷ []) ++ room 1)
    -- 7 goes by what is to be written, 11 tetrahedra here, and not by six a brick
    ∷ gives 15 bricks 44 11
    (corners 4 (0136 ∷ 0421 ∷ 2731 ∷ 0253 ∷ 0123 ∷ []) ++ corners 4 (0564 ∷ 0126 ∷ 0165 ∷ 0674 ∷ 0237 ∷ 0276 ∷ []))
    ∷ refuses 15 bricks 43 7
    ∷ refuses 13 (digits 6 012345) 11 7
    ∷ refuses 11 (digits 4 0123) 3 7
    -- 1 to 4 before 6
    ∷ refuses 0 [] 3 1
    ∷ refuses 20 [] 3 1
    ∷ refuses 17 (replicate 65537 1) 3 2
    ∷ refuses 15 (digits 7 1234567) 3 3
    ∷ refuses 16 (1 ∷ []) 3 3
    ∷ refuses 15 (separator ∷ digits 7 1234567) 3 4
    ∷ refuses 18 (1 ∷ separator ∷ 2 ∷ []) 3 4
    ∷ refuses 18 (1 ∷ 2 ∷ 3 ∷ []) 3 6
    ∷ refuses 19 (separator ∷ []) 3 6
    ∷ refuses 8 (digits 8 12345678) 3 6
    ∷ refuses 12 [] 3 6
    ∷ []

-- what split_block answers to an example
abbrev answered : Example → Example
answered e =
    record { kind = e.kind; ids = e.ids; lent = e.lent; outcome = split_block e.kind e.ids (room e.lent) }

pub examples_hold : map answered examples ≡ examples
unfolding split_block split_block_refusal cells counts split split_count split_kind simplexes cut settle settle_one decide overwrite pick block_refusal input_refusal block_fits strays holds_separator nodes_of
examples_hold = refl
