-- The edges that start at the places of a PHED's list, read off the list itself.
use Rattle.std.specs.Prelude.{ℕ, zero, suc, ◌+◌, ◌≡◌, ◌<◌, ◌≤◌, List, [], ◌∷◌, Bool, true, false, cond, drop, get_or, length, eqb, Option, Some, None}
use Rattle.base.specs.Kinds.{separator}
use Rattle.faces.specs.Edges.{Edge, edge, hits, count}

-- the first node of the face that holds place i
unfoldable pub head : List ℕ → ℕ → ℕ
head l zero = get_or l 0 separator
head l (suc i) = cond (eqb (get_or l i separator) separator) (get_or l (suc i) separator) (head l i)

-- the node that follows the one at place i in its face: the next entry, or the face's first node where the face ends
abbrev pub follower : List ℕ → ℕ → ℕ
follower l i = cond (eqb (get_or l (i + 1) separator) separator) (head l i) (get_or l (i + 1) separator)

-- the edge that starts at place i
abbrev pub edge_at : List ℕ → ℕ → Edge
edge_at l i = edge (get_or l i separator) (follower l i)

-- how often the edge that starts at place i is the edge d, once or not at all; none starts at a separator
abbrev pub hits_at : List ℕ → ℕ → Edge → ℕ
hits_at l i d = cond (eqb (get_or l i separator) separator) 0 (hits d (edge_at l i))

-- an entry's edge goes in front, unless the entry is a separator (true)
abbrev pub emit : Bool → Edge → List Edge → List Edge
emit true e es = es
emit false e es = e ∷ es

-- the edges of the entries of a list whose first face began with f
unfoldable pub flat : ℕ → List ℕ → List Edge
flat f [] = []
flat f (x ∷ l) =
    emit (eqb x separator) (edge x (cond (eqb (get_or l 0 separator) separator) f (get_or l 0 separator)))
    (flat (cond (eqb x separator) (get_or l 0 separator) f) l)

-- the edges that start at place i or later
abbrev pub edges_from : List ℕ → ℕ → List Edge
edges_from l i = flat (head l i) (drop i l)

-- how often the edge that starts at place i occurs behind it
abbrev pub later_at : List ℕ → ℕ → ℕ
later_at l i = cond (eqb (get_or l i separator) separator) 0 (count (edge_at l i) (edges_from l (i + 1)))

-- the next place from `at` on at which an edge between a and b can start: none starts before it
abbrev pub NextEnd : List ℕ → ℕ → ℕ → ℕ → Option ℕ → Type 0
NextEnd l at a b None = count (edge a b) (edges_from l at) ≡ 0
NextEnd l at a b (Some i) = (at ≤ i) × (i < length l) × (count (edge a b) (edges_from l i) ≡ count (edge a b) (edges_from l at))
