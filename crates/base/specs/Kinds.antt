-- The kinds of element by number, their node counts, and the limits (document 01, 'Ids, kinds, sizes').
use Rattle.std.specs.Prelude.{ℕ, Bool, ◌&&◌, List, [], ◌∷◌, leb, get_or}

-- 2^64 - 1 stands between the faces of a PHED and is no id
abbrev pub separator : ℕ
separator = 18446744073709551615

-- the most entries of one element, and the most ids of a block
abbrev pub element_limit : ℕ
element_limit = 4096

abbrev pub block_limit : ℕ
block_limit = 65536

-- the kinds are numbered 1 to 19
abbrev pub is_kind : ℕ → Bool
is_kind kind = leb 1 kind && leb kind 19

-- the node counts of the kinds 1 to 16, in their order
abbrev pub node_counts : List ℕ
node_counts =
    1  -- VERTEX
    ∷ 2 ∷ 3 ∷ 4  -- SEG2, SEG3, SEG4
    ∷ 3 ∷ 6 ∷ 7  -- TRI3, TRI6, TRI7
    ∷ 4 ∷ 8 ∷ 9  -- QUAD4, QUAD8, QUAD9
    ∷ 4 ∷ 10  -- TET4, TET10
    ∷ 6 ∷ 15  -- WEDGE6, WEDGE15
    ∷ 8 ∷ 21  -- HEX8, HEX21
    ∷ []

-- how many nodes a kind has; 0 where the kind does not fix it: PLINE 17, PGON 18, PHED 19
unfoldable pub nodes_of : ℕ → ℕ
nodes_of kind = get_or (0 ∷ node_counts) kind 0
