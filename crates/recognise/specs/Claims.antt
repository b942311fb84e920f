-- What is claimed of recognition beside its contract: refusal 16 is never given, and no answer has changed for it;
-- proofs/Claims.antt proves each.
use Rattle.std.specs.Prelude.{ℕ, ◌≡◌, List, [], ◌∷◌, Bool, cond, ◌&&◌, length, drop, eqb}
use Rattle.faces.specs.Edges.{closed}
use Rattle.shapes.specs.Cells.{Cell, cell, none}
use Rattle.shapes.specs.Seek.{nth}
use Rattle.shapes.specs.Tet.{in_triangle}
use Rattle.recognise.specs.FromPoly.{from_poly}
use Rattle.recognise.specs.Recognise.{from_faces, nodes_in, tally}

-- document 01's rule: a, b, c and the first of the nodes that is none of them; 16 if there is none
unfoldable pub fourth_or16 : ℕ → ℕ → ℕ → List ℕ → Cell
fourth_or16 a b c [] = none 16
fourth_or16 a b c (x ∷ nodes) = cond (in_triangle a b c x) (fourth_or16 a b c nodes) (cell 11 (a ∷ b ∷ c ∷ x ∷ []))

abbrev pub tet_or16 : List ℕ → Cell
tet_or16 tris = fourth_or16 (nth tris 0) (nth tris 1) (nth tris 2) (drop 3 tris)

-- four triangles, and each of their edges there exactly twice
abbrev pub closed_triangles : List (List ℕ) → Bool
closed_triangles fs = eqb (length fs) 4 && (eqb (tally 3 fs) 4 && closed fs)

-- what document 01 makes of faces, 16 among it
abbrev pub with_sixteen : List (List ℕ) → Cell
with_sixteen fs = cond (closed_triangles fs) (tet_or16 (nodes_in 3 fs)) (from_faces fs)

-- four triangles with each edge there exactly twice have a fourth node, repeated ids included: every answer is document 01's
abbrev pub FourthThere : Type 0
FourthThere = (fs : List (List ℕ)) → with_sixteen fs ≡ from_faces fs

-- no kind, list and output are refused with 16
abbrev pub NeverSixteen : Type 0
NeverSixteen = (kind : ℕ) (ids out : List ℕ) → (from_poly kind ids out).answer.refusal ≡ 16 → ⊥
