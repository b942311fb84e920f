-- Inputs of every refusal 1 to 4, in order and against each other, and what the checks say of them.
use Prim.Native.Nat.{ℕ}
use mathlib.Core.Path.{◌≡◌, refl}
use mathlib.Core.List.{List, [], ◌∷◌, map}
use lib.ListN.{replicate}
use Rattle.base.specs.Kinds.{separator, nodes_of}
use Rattle.base.specs.Checks.{element_refusal, block_refusal, input_refusal, element_fits, block_fits, strays, holds_separator}

-- a kind, a list, and the number that it gets as one element and as a block
pub record Example : Type 0 where
  pub kind : ℕ
  pub ids : List ℕ
  pub element : ℕ
  pub block : ℕ

abbrev ex : ℕ → List ℕ → ℕ → ℕ → Example
ex kind ids element block = record { kind = kind; ids = ids; element = element; block = block }

-- n ids
abbrev many : ℕ → List ℕ
many n = replicate n 7

abbrev pub examples : List Example
examples =
    -- 1 before all else
    ex 0 [] 1 1
    ∷ ex 20 (1 ∷ []) 1 1
    ∷ ex 20 (separator ∷ []) 1 1
    ∷ ex 18446744073709551615 (1 ∷ 2 ∷ 3 ∷ 4 ∷ []) 1 1
    ∷ ex 20 (many 4097) 1 1
    -- 2 before 3 and 4: one element has at most 4,096 entries
    ∷ ex 18 (many 4096) 0 0
    ∷ ex 18 (many 4097) 2 0
    ∷ ex 19 (many 4097) 2 0
    ∷ ex 11 (many 5000) 2 0
    ∷ ex 18 (separator ∷ many 4096) 2 4
    -- 3 before 4
    ∷ ex 1 [] 3 0
    ∷ ex 1 (5 ∷ []) 0 0
    ∷ ex 5 (1 ∷ 2 ∷ []) 3 3
    ∷ ex 11 (1 ∷ 2 ∷ 3 ∷ 4 ∷ []) 0 0
    ∷ ex 11 (many 8) 3 0
    ∷ ex 11 (many 5) 3 3
    ∷ ex 12 (many 10) 0 0
    ∷ ex 13 (many 6) 0 0
    ∷ ex 14 (many 15) 0 0
    ∷ ex 15 (many 8) 0 0
    ∷ ex 15 (separator ∷ many 8) 3 3
    ∷ ex 16 (many 21) 0 0
    ∷ ex 16 (many 20) 3 3
    ∷ ex 17 [] 3 0
    ∷ ex 18 [] 3 0
    ∷ ex 19 [] 0 0
    -- 4, save in a PHED
    ∷ ex 1 (separator ∷ []) 4 4
    ∷ ex 11 (1 ∷ 2 ∷ 3 ∷ separator ∷ []) 4 4
    ∷ ex 11 (1 ∷ 2 ∷ 3 ∷ 18446744073709551614 ∷ []) 0 0
    ∷ ex 17 (1 ∷ separator ∷ []) 4 4
    ∷ ex 18 (separator ∷ 1 ∷ []) 4 4
    ∷ ex 19 (separator ∷ 1 ∷ separator ∷ []) 0 0
    ∷ []

-- what the checks say of an example's kind and list
abbrev judged : Example → Example
judged e = ex e.kind e.ids (element_refusal e.kind e.ids) (block_refusal e.kind e.ids)

pub examples_hold : map judged examples ≡ examples
unfolding element_refusal block_refusal input_refusal element_fits block_fits strays holds_separator nodes_of
examples_hold = refl
