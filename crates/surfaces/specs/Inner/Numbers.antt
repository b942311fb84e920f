-- Nodes numbered by their first place, so that an edge is one small number, and how often that number is met.
use Rattle.std.specs.Prelude.{ℕ, zero, suc, ◌+◌, ◌*◌, ◌<◌, ◌≡◌, List, [], ◌∷◌, Bool, true, cond, ◌&&◌, eqb, ltb, length, get_or}
use Rattle.base.specs.Kinds.{separator}
use Rattle.faces.specs.Edges.{Edge, edge, twice}

-- the first place of x in a list, or its length
unfoldable pub place_of : List ℕ → ℕ → ℕ
place_of [] x = 0
place_of (y ∷ nodes) x = cond (eqb y x) 0 (suc (place_of nodes x))

-- the number of an edge between the nodes of two numbers below 24, in either direction
unfoldable pub pair : ℕ → ℕ → ℕ
pair a b = cond (ltb a b) (32 * a + b) (32 * b + a)

-- the edge from place i, where next has each place's next one in its face
abbrev pub edge_by : List ℕ → List ℕ → ℕ → Edge
edge_by nodes next i = edge (get_or nodes i separator) (get_or nodes (get_or next i 0) separator)

-- the n edges from place i on
unfoldable pub edges_by : List ℕ → List ℕ → ℕ → ℕ → List Edge
edges_by nodes next i zero = []
edges_by nodes next i (suc n) = edge_by nodes next i ∷ edges_by nodes next (suc i) n

-- every edge occurs exactly twice
abbrev pub closed_by : List ℕ → List ℕ → Bool
closed_by nodes next = twice (edges_by nodes next 0 (length next)) (edges_by nodes next 0 (length next))

-- the number of the edge from place i
abbrev pub edge_number : List ℕ → List ℕ → ℕ → ℕ
edge_number numbers next i = pair (get_or numbers i 0) (get_or numbers (get_or next i 0) 0)

-- how many of the first n edges have the number c
unfoldable pub met : List ℕ → List ℕ → ℕ → ℕ → ℕ
met numbers next c zero = 0
met numbers next c (suc n) = met numbers next c n + cond (eqb (edge_number numbers next n) c) 1 0

-- the numbers of the n edges from place i on are each met twice in all
unfoldable pub met_twice : List ℕ → List ℕ → ℕ → ℕ → Bool
met_twice numbers next i zero = true
met_twice numbers next i (suc n) =
    eqb (met numbers next (edge_number numbers next i) (length next)) 2 && met_twice numbers next (suc i) n

-- the same of a list of the edges' numbers
unfoldable pub met_in : List ℕ → ℕ → ℕ → ℕ
met_in edges c zero = 0
met_in edges c (suc n) = met_in edges c n + cond (eqb (get_or edges n 0) c) 1 0

unfoldable pub each_twice : List ℕ → ℕ → ℕ → Bool
each_twice edges i zero = true
each_twice edges i (suc n) = eqb (met_in edges (get_or edges i 0) (length edges)) 2 && each_twice edges (suc i) n

-- what the code keeps: each node's number, all below 24; each edge's number, all below 768; how often each is met
abbrev pub Numbered : List ℕ → List ℕ → Type 0
Numbered nodes numbers = (i : ℕ) → i < length nodes → get_or numbers i 0 ≡ place_of nodes (get_or nodes i separator)

abbrev pub Small : List ℕ → Type 0
Small numbers = (i : ℕ) → get_or numbers i 0 < 24

abbrev pub Coded : List ℕ → List ℕ → List ℕ → Type 0
Coded numbers next edges = (i : ℕ) → i < length numbers → get_or edges i 0 ≡ edge_number numbers next i

abbrev pub Few : List ℕ → Type 0
Few edges = (i : ℕ) → get_or edges i 0 < 768

abbrev pub Counted : List ℕ → List ℕ → Type 0
Counted edges counts = (c : ℕ) → c < 768 → get_or counts c 0 ≡ met_in edges c (length edges)

-- every place's next one is a place of the n
abbrev pub Within : List ℕ → ℕ → Type 0
Within next n = (i : ℕ) → i < length next → get_or next i 0 < n
