-- The faces of a PHED: the runs of its list between separators, empty ones left out.
use Rattle.std.specs.Prelude.{ℕ, List, [], ◌∷◌, ◌++◌, Bool, true, false, eqb}
use Rattle.base.specs.Kinds.{separator}

-- the runs between separators, empty ones too: the first, and those after it
pub record Runs : Type 0 where
  pub first : List ℕ
  pub rest : List (List ℕ)

-- one more entry in front: a separator (true) ends an empty run there, an id goes in front of the first run
abbrev pub onto : Bool → ℕ → Runs → Runs
onto true x r = record { first = []; rest = r.first ∷ r.rest }
onto false x r = record { first = x ∷ r.first; rest = r.rest }

unfoldable pub runs : List ℕ → Runs
runs [] = record { first = []; rest = [] }
runs (x ∷ l) = onto (eqb x separator) x (runs l)

-- a run in front of faces: an empty one is left out
abbrev pub lead : List ℕ → List (List ℕ) → List (List ℕ)
lead [] fs = fs
lead (x ∷ r) fs = (x ∷ r) ∷ fs

unfoldable pub full : List (List ℕ) → List (List ℕ)
full [] = []
full (r ∷ rs) = lead r (full rs)

unfoldable pub faces : List ℕ → List (List ℕ)
faces l = lead (runs l).first (full (runs l).rest)

-- lists behind others, x before each
unfoldable pub further : ℕ → List (List ℕ) → List ℕ
further x [] = []
further x (f ∷ fs) = x ∷ f ++ further x fs

-- lists in one, x between two
unfoldable pub joined : ℕ → List (List ℕ) → List ℕ
joined x [] = []
joined x (f ∷ fs) = f ++ further x fs
