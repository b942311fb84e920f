-- Six quads, their nodes one after another, as a HEX8. Quad 0 is the bottom.
use Rattle.std.specs.Prelude.{ℕ, ◌+◌, List, [], ◌∷◌, Bool, cond, not, ◌&&◌, ◌||◌, eqb}
use Rattle.faces.specs.Edges.{edge, same}
use Rattle.shapes.specs.Cells.{Cell, cell, none}
use Rattle.shapes.specs.Seek.{seek, corner}

-- the side face at each of the four bottom edges
pub record Sides : Type 0 where
  pub first : ℕ
  pub second : ℕ
  pub third : ℕ
  pub fourth : ℕ

-- x is a node of the bottom
abbrev pub in_bottom : List ℕ → ℕ → Bool
in_bottom quads x =
    eqb x (corner quads 0 0) || (eqb x (corner quads 0 1) || (eqb x (corner quads 0 2) || eqb x (corner quads 0 3)))

-- quad k shares a node with the bottom
unfoldable pub touches : List ℕ → ℕ → Bool
touches quads k =
    in_bottom quads (corner quads k 0)
    || (in_bottom quads (corner quads k 1) || (in_bottom quads (corner quads k 2) || in_bottom quads (corner quads k 3)))

-- the first other face that shares no node with the bottom, or 6
unfoldable pub opposite : List ℕ → ℕ
opposite quads = seek (λ k. not (touches quads k)) 1 5

-- the cycle of quad k has the edge from a to b, in either direction
unfoldable pub has_edge : List ℕ → ℕ → ℕ → ℕ → Bool
has_edge quads k a b =
    same (edge a b) (edge (corner quads k 0) (corner quads k 1))
    || (same (edge a b) (edge (corner quads k 1) (corner quads k 2))
    || (same (edge a b) (edge (corner quads k 2) (corner quads k 3))
    || same (edge a b) (edge (corner quads k 3) (corner quads k 0))))

-- the side face at bottom edge j: the first face with that edge that is neither the bottom nor the opposite face o, or 6
unfoldable pub side : List ℕ → ℕ → ℕ → ℕ
side quads o j = seek (λ k. not (eqb k o) && has_edge quads k (corner quads 0 j) (corner quads 0 (j + 1))) 1 5

-- the side faces at the four bottom edges, in cycle order
unfoldable pub sides : List ℕ → ℕ → Sides
sides quads o =
    record { first = side quads o 0; second = side quads o 1; third = side quads o 2; fourth = side quads o 3 }

-- some bottom edge has no side face
abbrev pub lacks_one : Sides → Bool
lacks_one s = eqb s.first 6 || (eqb s.second 6 || (eqb s.third 6 || eqb s.fourth 6))

-- the side face at bottom edge j
abbrev pub side_at : Sides → ℕ → ℕ
side_at s j = cond (eqb j 1) s.second (cond (eqb j 2) s.third (cond (eqb j 3) s.fourth s.first))

-- the first place of x in quad k, or 4
unfoldable pub place : List ℕ → ℕ → ℕ → ℕ
place quads k x = seek (λ j. eqb (corner quads k j) x) 0 4

-- the node above place p of side face k: the neighbour before, if that is no bottom node, else the one after
abbrev pub above_at : List ℕ → ℕ → ℕ → ℕ
above_at quads k p = cond (in_bottom quads (corner quads k (p + 3))) (corner quads k (p + 1)) (corner quads k (p + 3))

-- the node above x in side face k goes by the first place of x there
unfoldable pub above : List ℕ → ℕ → ℕ → ℕ
above quads k x = above_at quads k (place quads k x)

-- the first bottom edge with the end x, by id: there the node above x becomes known
unfoldable pub home : List ℕ → ℕ → ℕ
home quads x = seek (λ j. eqb (corner quads 0 j) x || eqb (corner quads 0 (j + 1)) x) 0 4

-- the node above the bottom node x
unfoldable pub top : List ℕ → Sides → ℕ → ℕ
top quads s x = above quads (side_at s (home quads x)) x

-- the bottom, then the nodes above it
abbrev pub brick_nodes : List ℕ → Sides → List ℕ
brick_nodes quads s =
    corner quads 0 0 ∷ corner quads 0 1 ∷ corner quads 0 2 ∷ corner quads 0 3
    ∷ top quads s (corner quads 0 0) ∷ top quads s (corner quads 0 1)
    ∷ top quads s (corner quads 0 2) ∷ top quads s (corner quads 0 3)
    ∷ []

-- 18 if some bottom edge has no side face
abbrev pub brick_from : List ℕ → Sides → Cell
brick_from quads s = cond (lacks_one s) (none 18) (cell 15 (brick_nodes quads s))

-- o is the opposite face; 17 if there is none
abbrev pub brick_under : List ℕ → ℕ → Cell
brick_under quads o = cond (eqb o 6) (none 17) (brick_from quads (sides quads o))

unfoldable pub brick : List ℕ → Cell
brick quads = brick_under quads (opposite quads)
