-- Lists laid out as the poly forms of the cells are: one separator between two faces and no other.
use Rattle.std.specs.Prelude.{ℕ, zero, suc, ◌+◌, List, [], ◌∷◌, Bool, cond, not, ◌&&◌, eqb, length}
use Rattle.base.specs.Gather.{pick}
use Rattle.base.specs.Kinds.{separator}
use Rattle.shapes.specs.Brick.{brick}
use Rattle.shapes.specs.Cells.{Cell, none}
use Rattle.shapes.specs.Seek.{nth}
use Rattle.shapes.specs.Tet.{tet}
use Rattle.surfaces.specs.Inner.Numbers.{closed_by}

abbrev pub is_node : List ℕ → ℕ → Bool
is_node l i = not (eqb (nth l i) separator)

-- a face of n nodes stands at a place and ends there
abbrev pub face_at : ℕ → List ℕ → ℕ → Bool
face_at zero l at = eqb (nth l at) separator
face_at (suc n) l at = is_node l at && face_at n l (at + 1)

-- four triangles, six quads, two triangles and three quads
abbrev pub laid_tet : List ℕ → Bool
laid_tet l = eqb (length l) 15 && (face_at 3 l 0 && (face_at 3 l 4 && (face_at 3 l 8 && face_at 3 l 12)))

abbrev pub laid_brick : List ℕ → Bool
laid_brick l =
    eqb (length l) 29
    && (face_at 4 l 0 && (face_at 4 l 5 && (face_at 4 l 10 && (face_at 4 l 15 && (face_at 4 l 20 && face_at 4 l 25)))))

abbrev pub laid_wedge : List ℕ → Bool
laid_wedge l = eqb (length l) 22 && (face_at 3 l 0 && (face_at 3 l 4 && (face_at 4 l 8 && (face_at 4 l 13 && face_at 4 l 18))))

-- their nodes
abbrev pub tet_nodes : List ℕ → List ℕ
tet_nodes l = pick l (0 ∷ 1 ∷ 2 ∷ 4 ∷ 5 ∷ 6 ∷ 8 ∷ 9 ∷ 10 ∷ 12 ∷ 13 ∷ 14 ∷ [])

abbrev pub brick_quads : List ℕ → List ℕ
brick_quads l =
    pick l
    (0 ∷ 1 ∷ 2 ∷ 3 ∷ 5 ∷ 6 ∷ 7 ∷ 8 ∷ 10 ∷ 11 ∷ 12 ∷ 13
    ∷ 15 ∷ 16 ∷ 17 ∷ 18 ∷ 20 ∷ 21 ∷ 22 ∷ 23 ∷ 25 ∷ 26 ∷ 27 ∷ 28 ∷ [])

abbrev pub wedge_tris : List ℕ → List ℕ
wedge_tris l = pick l (0 ∷ 1 ∷ 2 ∷ 4 ∷ 5 ∷ 6 ∷ [])

abbrev pub wedge_quads : List ℕ → List ℕ
wedge_quads l = pick l (8 ∷ 9 ∷ 10 ∷ 11 ∷ 13 ∷ 14 ∷ 15 ∷ 16 ∷ 18 ∷ 19 ∷ 20 ∷ 21 ∷ [])

-- the place of each node's next one in its face
abbrev pub tri_next : List ℕ
tri_next = 1 ∷ 2 ∷ 0 ∷ 4 ∷ 5 ∷ 3 ∷ 7 ∷ 8 ∷ 6 ∷ 10 ∷ 11 ∷ 9 ∷ []

abbrev pub quad_next : List ℕ
quad_next =
    1 ∷ 2 ∷ 3 ∷ 0 ∷ 5 ∷ 6 ∷ 7 ∷ 4 ∷ 9 ∷ 10 ∷ 11 ∷ 8
    ∷ 13 ∷ 14 ∷ 15 ∷ 12 ∷ 17 ∷ 18 ∷ 19 ∷ 16 ∷ 21 ∷ 22 ∷ 23 ∷ 20 ∷ []

-- the cells that they are, 14 if the surface is open
abbrev pub closed_tet : List ℕ → Cell
closed_tet nodes = cond (closed_by nodes tri_next) (tet nodes) (none 14)

abbrev pub closed_brick : List ℕ → Cell
closed_brick nodes = cond (closed_by nodes quad_next) (brick nodes) (none 14)
