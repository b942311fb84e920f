-- How a PHED's list is walked: what stands at its front, where the next face starts and ends, and which faces are left.
use Rattle.std.specs.Prelude.{ℕ, suc, ◌+◌, ◌-◌, List, [], ◌∷◌, Bool, true, false, not, cond, take, drop, eqb}
use Rattle.base.specs.Kinds.{separator}
use Rattle.faces.specs.Faces.{faces}
use Rattle.faces.specs.declared.Face.{Face}
use Rattle.faces.specs.declared.Faces.{Faces}

abbrev pub agree : Bool → Bool → Bool
agree true b = b
agree false b = not b

-- how many separators (true), or how many ids (false), stand at the front
unfoldable pub span : Bool → List ℕ → ℕ
span separators [] = 0
span separators (x ∷ l) = cond (agree separators (eqb x separator)) (suc (span separators l)) 0

-- where the next face at or after a place starts and ends: after the separators there, and after its ids
abbrev pub start_of : List ℕ → ℕ → ℕ
start_of l at = at + span true (drop at l)

abbrev pub end_of : List ℕ → ℕ → ℕ
end_of l at = start_of l at + span false (drop (start_of l at) l)

unfoldable pub next_face : List ℕ → ℕ → Face
next_face l at = record { start = start_of l at; end = end_of l at }

-- the entries from s up to e
abbrev pub part : List ℕ → ℕ → ℕ → List ℕ
part l s e = take (e - s) (drop s l)

-- the faces that a reader has left
abbrev pub left : Faces → List (List ℕ)
left reader = faces reader.ids.now
