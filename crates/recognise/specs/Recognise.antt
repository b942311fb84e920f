-- What a PHED is recognised as, from its faces alone (document 01, 'To and from poly').
use Rattle.std.specs.Prelude.{ℕ, ◌+◌, List, [], ◌∷◌, ◌++◌, cond, ◌&&◌, ◌||◌, eqb, length}
use Rattle.faces.specs.Faces.{faces}
use Rattle.faces.specs.Edges.{closed}
use Rattle.shapes.specs.Cells.{Cell, none}
use Rattle.shapes.specs.Tet.{tet}
use Rattle.shapes.specs.Wedge.{wedge}
use Rattle.shapes.specs.Brick.{brick}

-- how many faces have n nodes
unfoldable pub tally : ℕ → List (List ℕ) → ℕ
tally n [] = 0
tally n (f ∷ fs) = cond (eqb (length f) n) 1 0 + tally n fs

-- a face, if it has n nodes
abbrev pub of_length : ℕ → List ℕ → List ℕ
of_length n f = cond (eqb (length f) n) f []

-- the nodes of the faces that have n, one face after another
unfoldable pub nodes_in : ℕ → List (List ℕ) → List ℕ
nodes_in n [] = []
nodes_in n (f ∷ fs) = of_length n f ++ nodes_in n fs

-- the length of the first face that has neither a nor b nodes; 0 if there is none
unfoldable pub other_length : ℕ → ℕ → List (List ℕ) → ℕ
other_length a b [] = 0
other_length a b (f ∷ fs) = cond (eqb (length f) a || eqb (length f) b) (other_length a b fs) (length f)

-- faces of one length: a closed surface of four triangles or six quads
unfoldable pub regular : List (List ℕ) → Cell
regular fs =
    cond (closed fs)
    (cond (eqb (tally 3 fs) 4) (tet (nodes_in 3 fs))
    (cond (eqb (tally 4 fs) 6) (brick (nodes_in 4 fs))
    (none 15)))
    (none 14)

-- faces of two lengths: two triangles and three quads
unfoldable pub mixed : List (List ℕ) → Cell
mixed fs = cond (eqb (tally 3 fs) 2 && eqb (tally 4 fs) 3) (wedge (nodes_in 3 fs) (nodes_in 4 fs)) (none 11)

-- a is the first face's length, b the first other one, c the first that is neither; 0 for none
abbrev pub by_lengths : List (List ℕ) → ℕ → ℕ → ℕ → Cell
by_lengths fs a b c = cond (eqb a 0) (none 8) (cond (eqb b 0) (regular fs) (cond (eqb c 0) (mixed fs) (none 10)))

-- b and c as they follow from a
abbrev pub by_first : List (List ℕ) → ℕ → Cell
by_first fs a = by_lengths fs a (other_length a a fs) (other_length a (other_length a a fs) fs)

-- the cell that faces make
unfoldable pub from_faces : List (List ℕ) → Cell
from_faces fs = by_first fs (other_length 0 0 fs)

-- the cell that a PHED is
abbrev pub from_phed : List ℕ → Cell
from_phed ids = from_faces (faces ids)
