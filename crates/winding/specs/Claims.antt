-- What is claimed of winding beside its contract; proofs/Claims.antt proves each.
use Rattle.std.specs.Prelude.{◌≡◌, ℕ, ◌+◌, ◌≤◌, true, cond, List, [], ◌∷◌, length, ◌==◌, ◌≢◌, Float}
use Rattle.base.specs.Kinds.{separator, element_limit}
use Rattle.winding.specs.Turn.{turned}
use Rattle.winding.specs.Plane.{wound_in_plane}
use Rattle.winding.specs.Exact.{on_grid, exact_sum, negative}
use Rattle.winding.specs.Reorient.{reoriented}

-- with whole coordinates of size at most 2^20 a list of at most 4,096 nodes is reversed exactly when the exact sum is negative
abbrev pub ReversedExactly : Type 0
ReversedExactly =
    (points : List Float) (ids : List ℕ) → length ids ≤ element_limit → on_grid points ids ≡ true
    → wound_in_plane points ids ≡ turned (negative (exact_sum points ids)) ids

-- reversing twice gives the list back
abbrev pub ReversedTwice : Type 0
ReversedTwice = (list : List ℕ) → turned true (turned true list) ≡ list

-- how often an id stands in a list
unfoldable pub times : ℕ → List ℕ → ℕ
times id [] = 0
times id (x ∷ list) = cond (id == x) 1 0 + times id list

-- the answer has the same ids, each as often
abbrev pub SameIds : Type 0
SameIds =
    (kind : ℕ) (ids : List ℕ) (dimension : ℕ) (points : List Float) (id : ℕ) → (id ≢ separator)
    → times id (reoriented kind ids dimension points) ≡ times id ids
