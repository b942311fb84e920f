-- Two triangles and three quads, the nodes of each one after another, as a WEDGE6.
use Rattle.std.specs.Prelude.{ℕ, ◌+◌, ◌%◌, List, [], ◌∷◌, cond, not, ◌&&◌, eqb}
use Rattle.shapes.specs.Cells.{Cell, cell, none}
use Rattle.shapes.specs.Seek.{seek, nth, corner}

-- the first place at which quad k runs v to w, or 4
unfoldable pub runs_at : List ℕ → ℕ → ℕ → ℕ → ℕ
runs_at quads k v w = seek (λ j. eqb (corner quads k j) v && eqb (corner quads k (j + 1)) w) 0 4

-- the first quad that runs v to w, or 3
unfoldable pub runs_in : List ℕ → ℕ → ℕ → ℕ
runs_in quads v w = seek (λ k. not (eqb (runs_at quads k v w) 4)) 0 3

-- the node after w where quad k runs v to w
abbrev pub after : List ℕ → ℕ → ℕ → ℕ → ℕ
after quads k v w = corner quads k (runs_at quads k v w + 2)

-- the place of a node in the second triangle, or 3
unfoldable pub place_in_second : List ℕ → ℕ → ℕ
place_in_second tris v = seek (λ m. eqb (nth tris (3 + m)) v) 0 3

-- t0, t2, t1 of the first triangle, then the second from place m round
abbrev pub wedge_nodes : List ℕ → ℕ → List ℕ
wedge_nodes tris m =
    nth tris 0 ∷ nth tris 2 ∷ nth tris 1
    ∷ nth tris (3 + m) ∷ nth tris (3 + (m + 1) % 3) ∷ nth tris (3 + (m + 2) % 3)
    ∷ []

-- quad k is the one found, node v the one after: 12 if there is no such quad, 13 if v is not in the second triangle
abbrev pub wedge_from : List ℕ → ℕ → ℕ → Cell
wedge_from tris k v =
    cond (eqb k 3) (none 12)
    (cond (eqb (place_in_second tris v) 3) (none 13)
    (cell 13 (wedge_nodes tris (place_in_second tris v))))

-- the quad is the first that runs v1 to v0, where v0 and v1 begin the first triangle
abbrev pub wedge_at : List ℕ → List ℕ → ℕ → ℕ → Cell
wedge_at tris quads v0 v1 = wedge_from tris (runs_in quads v1 v0) (after quads (runs_in quads v1 v0) v1 v0)

unfoldable pub wedge : List ℕ → List ℕ → Cell
wedge tris quads = wedge_at tris quads (nth tris 0) (nth tris 1)
