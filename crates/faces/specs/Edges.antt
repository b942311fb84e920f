-- The edges of faces as cycles, and how often an edge occurs.
use Rattle.std.specs.Prelude.{ℕ, ◌+◌, List, [], ◌∷◌, ◌++◌, Bool, true, cond, ◌&&◌, ◌||◌, get_or, eqb}
use Rattle.base.specs.Kinds.{separator}

pub record Edge : Type 0 where
  pub from : ℕ
  pub to : ℕ

abbrev pub edge : ℕ → ℕ → Edge
edge a b = record { from = a; to = b }

-- the edges along a run, the last back to f
unfoldable pub along : ℕ → List ℕ → List Edge
along f [] = []
along f (x ∷ r) = edge x (get_or r 0 f) ∷ along f r

-- the edges of a face: each node to the next, the last to the first
abbrev pub cycle : List ℕ → List Edge
cycle r = along (get_or r 0 separator) r

unfoldable pub edges : List (List ℕ) → List Edge
edges [] = []
edges (f ∷ fs) = cycle f ++ edges fs

-- the same edge, in either direction
abbrev pub same : Edge → Edge → Bool
same d e = (eqb d.from e.from && eqb d.to e.to) || (eqb d.from e.to && eqb d.to e.from)

abbrev pub hits : Edge → Edge → ℕ
hits d e = cond (same d e) 1 0

-- how often an edge occurs: a face that runs it twice counts twice
unfoldable pub count : Edge → List Edge → ℕ
count d [] = 0
count d (e ∷ es) = hits d e + count d es

-- each of the edges ds occurs exactly twice among es
unfoldable pub twice : List Edge → List Edge → Bool
twice es [] = true
twice es (d ∷ ds) = eqb (count d es) 2 && twice es ds

-- every edge of the faces' cycles occurs exactly twice
abbrev pub closed : List (List ℕ) → Bool
closed fs = twice (edges fs) (edges fs)
