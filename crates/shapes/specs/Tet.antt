-- Four triangles, their nodes one after another, as a TET4.
use Rattle.std.specs.Prelude.{ℕ, List, [], ◌∷◌, Bool, cond, ◌||◌, drop, eqb}
use Rattle.base.specs.Kinds.{separator}
use Rattle.shapes.specs.Cells.{Cell, cell}
use Rattle.shapes.specs.Seek.{nth}

-- x is a node of the triangle a b c
abbrev pub in_triangle : ℕ → ℕ → ℕ → ℕ → Bool
in_triangle a b c x = eqb x a || (eqb x b || eqb x c)

-- the first of the nodes that is none of a, b, c; a closed surface has one (`recognise`, Claims), so the separator stands for no answer
unfoldable pub fourth : ℕ → ℕ → ℕ → List ℕ → ℕ
fourth a b c [] = separator
fourth a b c (x ∷ nodes) = cond (in_triangle a b c x) (fourth a b c nodes) x

abbrev pub tet_on : ℕ → ℕ → ℕ → List ℕ → Cell
tet_on a b c nodes = cell 11 (a ∷ b ∷ c ∷ fourth a b c nodes ∷ [])

-- a, b, c from the first triangle, the fourth from the later ones
abbrev pub tet : List ℕ → Cell
tet tris = tet_on (nth tris 0) (nth tris 1) (nth tris 2) (drop 3 tris)
