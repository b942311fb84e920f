-- The operation `reorient`: which kinds are wound where, what is refused, and the answer.
use Rattle.std.specs.Prelude.{ℕ, Bool, cond, not, ◌&&◌, ◌||◌, List, length, ◌==◌, Float}
use Rattle.base.specs.Checks.{element_refusal}
use Rattle.base.specs.Outcome.{Outcome, or_else, settle}
use Rattle.base.specs.Solids.{is_solid}
use Rattle.base.specs.declared.refusals.Answer.{Answer}
use Rattle.winding.specs.Points.{points_fit, point_count, lacks_point}
use Rattle.winding.specs.Plane.{wound_in_plane}
use Rattle.winding.specs.Space.{wound_in_space}

-- TRI3, QUAD4 and PGON are wound in the plane
unfoldable pub turns_in_plane : ℕ → ℕ → Bool
turns_in_plane kind dimension = dimension == 2 && (kind == 5 || kind == 8 || kind == 18)

-- PHED is wound in space
unfoldable pub turns_in_space : ℕ → ℕ → Bool
turns_in_space kind dimension = dimension == 3 && kind == 19

-- TET4, WEDGE6 and HEX8 have no rule in space
unfoldable pub has_no_rule : ℕ → ℕ → Bool
has_no_rule kind dimension = dimension == 3 && is_solid kind

-- what is wound needs the points of its ids; what is copied needs none
unfoldable pub wants_point : ℕ → List ℕ → ℕ → ℕ → Bool
wants_point kind ids dimension n =
    (turns_in_plane kind dimension || turns_in_space kind dimension) && lacks_point (point_count dimension n) ids

-- 1 to 4, then 20 for every kind, then 6, then 19; or 0
unfoldable pub reorient_refusal : ℕ → List ℕ → ℕ → ℕ → ℕ
reorient_refusal kind ids dimension n =
    or_else (element_refusal kind ids)
    (cond (not (points_fit dimension n)) 20
    (cond (has_no_rule kind dimension) 6
    (cond (wants_point kind ids dimension n) 19 0)))

-- wound where the kind has a rule, else copied
unfoldable pub reoriented : ℕ → List ℕ → ℕ → List Float → List ℕ
reoriented kind ids dimension points =
    cond (turns_in_space kind dimension) (wound_in_space points ids)
    (cond (turns_in_plane kind dimension) (wound_in_plane points ids)
    ids)

-- the answer over the front of out, with the kind given and the number of entries
abbrev pub reorient_outcome : ℕ → List ℕ → ℕ → List Float → List ℕ → Outcome Answer (List ℕ)
reorient_outcome kind ids dimension points out =
    let answer = reoriented kind ids dimension points in
    settle (reorient_refusal kind ids dimension (length points)) kind (length answer) answer out
