-- The examples of document 01 that concern splits, and what to_simplexes answers to them, refusals too.
use Prim.Native.Nat.{ℕ}
use mathlib.Core.Path.{◌≡◌, refl}
use mathlib.Core.List.{List, [], ◌∷◌, map}
use lib.ListN.{replicate}
use Rattle.base.specs.Kinds.{separator, nodes_of}
use Rattle.base.specs.Checks.{element_refusal, input_refusal, element_fits, strays, holds_separator}
use Rattle.base.specs.Gather.{pick, digits, corners}
use Rattle.base.specs.Outcome.{Outcome, decide, settle, settle_one, overwrite, given, refused}
use Rattle.base.specs.declared.refusals.Answer.{Answer}
use Rattle.cuts.specs.Split.{cut, simplexes, split, split_count, split_kind, split_refusal, to_simplexes}

-- a kind, its ids, and as many entries of 7 lent; what is then answered, and what was lent then holds
pub record Example : Type 0 where
  pub kind : ℕ
  pub ids : List ℕ
  pub lent : ℕ
  pub outcome : Outcome Answer (List ℕ)

abbrev room : ℕ → List ℕ
room n = replicate n 7

abbrev gives : ℕ → List ℕ → ℕ → ℕ → ℕ → List ℕ → Example
gives kind ids lent simplex count out =
    record { kind = kind; ids = ids; lent = lent; outcome = record { answer = given simplex count; lent = out } }

abbrev refuses : ℕ → List ℕ → ℕ → ℕ → Example
refuses kind ids lent why =
    record { kind = kind; ids = ids; lent = lent; outcome = record { answer = refused why; lent = room lent } }

abbrev pub examples : List Example
examples =
    -- HEX8 0..7, and the brick of five
    gives 15 (digits 8 01234567) 24 11 6 (corners 4 (0564 ∷ 0126 ∷ 0165 ∷ 0674 ∷ 0237 ∷ 0276 ∷ []))
    ∷ gives 15 (digits 8 04256173) 20 11 5 (corners 4 (0136 ∷ 0421 ∷ 2731 ∷ 0253 ∷ 0123 ∷ []))
    -- WEDGE6 0..5, and the wedge that the program prints; entries past the answer stay
    ∷ gives 13 (digits 6 012345) 12 11 3 (corners 4 (0453 ∷ 0154 ∷ 0512 ∷ []))
    ∷ gives 13 (10 ∷ 8 ∷ 7 ∷ 9 ∷ 11 ∷ 12 ∷ []) 14 11 3
    (7 ∷ 9 ∷ 11 ∷ 12 ∷ 7 ∷ 11 ∷ 9 ∷ 8 ∷ 7 ∷ 8 ∷ 9 ∷ 10 ∷ 7 ∷ 7 ∷ [])
    -- QUAD4
    ∷ gives 8 (5 ∷ 3 ∷ 9 ∷ 8 ∷ []) 6 5 2 (corners 3 (538 ∷ 983 ∷ []))
    ∷ gives 8 (3 ∷ 5 ∷ 9 ∷ 8 ∷ []) 6 5 2 (corners 3 (398 ∷ 359 ∷ []))
    -- the first of equal smallest ids counts; a mid-side node that is the smallest counts as the last branch
    ∷ gives 8 (4 ∷ 2 ∷ 2 ∷ 9 ∷ []) 6 5 2 (corners 3 (429 ∷ 292 ∷ []))
    ∷ gives 9 (5 ∷ 3 ∷ 9 ∷ 8 ∷ 1 ∷ 6 ∷ 7 ∷ 4 ∷ []) 6 5 2 (corners 3 (598 ∷ 539 ∷ []))
    -- the other kinds
    ∷ gives 1 (5 ∷ []) 1 1 1 (5 ∷ [])
    ∷ gives 2 (5 ∷ 3 ∷ []) 2 2 1 (3 ∷ 5 ∷ [])
    ∷ gives 3 (5 ∷ 6 ∷ 3 ∷ []) 2 2 1 (6 ∷ 5 ∷ [])
    ∷ gives 4 (3 ∷ 3 ∷ 5 ∷ 6 ∷ []) 2 2 1 (3 ∷ 3 ∷ [])
    ∷ gives 6 (digits 6 543210) 3 5 1 (digits 3 543)
    ∷ gives 11 (digits 4 3210) 4 11 1 (digits 4 3210)
    ∷ gives 14 (10 ∷ 8 ∷ 7 ∷ 9 ∷ 11 ∷ 12 ∷ replicate 9 1) 12 11 3
    (12 ∷ 8 ∷ 10 ∷ 7 ∷ 12 ∷ 8 ∷ 9 ∷ 10 ∷ 12 ∷ 9 ∷ 8 ∷ 11 ∷ [])
    -- 1 to 4 before 6, and 7 last
    ∷ refuses 20 [] 24 1
    ∷ refuses 18 (replicate 4097 1) 24 2
    ∷ refuses 13 (digits 5 01234) 24 3
    ∷ refuses 17 [] 24 3
    ∷ refuses 15 (separator ∷ digits 7 1234567) 24 4
    ∷ refuses 18 (separator ∷ []) 24 4
    ∷ refuses 17 (1 ∷ 2 ∷ []) 24 6
    ∷ refuses 18 (replicate 4096 1) 0 6
    ∷ refuses 19 [] 24 6
    ∷ refuses 15 (digits 8 01234567) 23 7
    ∷ refuses 15 (digits 8 04256173) 19 7
    ∷ refuses 13 (digits 6 012345) 0 7
    ∷ []

-- what to_simplexes answers to an example
abbrev answered : Example → Example
answered e =
    record { kind = e.kind; ids = e.ids; lent = e.lent; outcome = to_simplexes e.kind e.ids (room e.lent) }

pub examples_hold : map answered examples ≡ examples
unfolding to_simplexes split_refusal split_kind split_count split simplexes cut settle settle_one decide overwrite pick element_refusal input_refusal element_fits strays holds_separator nodes_of
examples_hold = refl
