-- The refusals 1 to 4, which every operation tries first and in this order (document 01, 'Numbers returned').
use Rattle.std.specs.Prelude.{ℕ, ◌%◌, Bool, true, false, cond, not, ◌&&◌, ◌||◌, List, [], ◌∷◌, eqb, ltb, length}
use Rattle.base.specs.Kinds.{separator, element_limit, block_limit, is_kind, nodes_of}

-- the node count is right for one element: what the kind fixes; any for PHED; else 1 or more
unfoldable pub element_fits : ℕ → ℕ → Bool
element_fits kind n = cond (eqb (nodes_of kind) 0) (eqb kind 19 || ltb 0 n) (eqb n (nodes_of kind))

-- the node count is right for a block: a multiple of what the kind fixes; any where it fixes none
unfoldable pub block_fits : ℕ → ℕ → Bool
block_fits kind n = cond (eqb (nodes_of kind) 0) true (eqb (n % nodes_of kind) 0)

unfoldable pub holds_separator : List ℕ → Bool
holds_separator [] = false
holds_separator (x ∷ xs) = eqb x separator || holds_separator xs

-- a separator in a kind other than PHED
unfoldable pub strays : ℕ → List ℕ → Bool
strays kind ids = not (eqb kind 19) && holds_separator ids

-- the first of 1, 2, 3, 4 that holds, or 0
unfoldable pub input_refusal : ℕ → Bool → ℕ → List ℕ → ℕ
input_refusal limit fits kind ids =
    cond (not (is_kind kind)) 1
    (cond (ltb limit (length ids)) 2
    (cond (not fits) 3
    (cond (strays kind ids) 4 0)))

unfoldable pub element_refusal : ℕ → List ℕ → ℕ
element_refusal kind ids = input_refusal element_limit (element_fits kind (length ids)) kind ids

unfoldable pub block_refusal : ℕ → List ℕ → ℕ
block_refusal kind ids = input_refusal block_limit (block_fits kind (length ids)) kind ids
