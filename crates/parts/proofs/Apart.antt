-- Laws of faces written one after another: how many there are, and that what is left of the whole shrinks by the face that is written.
use mathlib.Core.Path.{◌≡◌, refl, sym, ap, ◌∙◌}
use mathlib.Core.List.{List, [], ◌∷◌, ◌++◌, flatten, append_assoc}
use Prim.Native.Nat.{ℕ, suc, ◌+◌, ◌≤◌}
use native.Mathlib.Nat.{add-zero}
use native.Mathlib.Omega.{arith}
use mathlib.Core.Bool.{Bool, true, false}
use lib.Dec.{eqb}
use lib.ListN.{length, get_or, take, drop, length-append, length-drop}
use lib.Seq.{take_at, drop_at, take-append_seam, drop-append_seam, drop-drop, take-add, get_or-drop, length-take-le}
use Rattle.base.specs.Outcome.{overwrite}
use Rattle.base.specs.Kinds.{separator}
use Rattle.base.proofs.Lists.{front_whole}
use Rattle.faces.specs.Faces.{onto, runs, lead, full, faces}
use Rattle.parts.specs.Subentities.{ends_from}

-- whole is all that is to be written, n of it is there, and what is left begins with p
module _ (whole p rest : List ℕ) (n : ℕ) (left : drop n whole ≡ p ++ rest) (lt : n ≤ length whole) where
  pub left_fits : n + length p ≤ length whole
  left_fits = omega (arith, ap length left, length-drop n whole, length-append p rest)

  pub left_next : drop (n + length p) whole ≡ rest
  left_next = sym (drop-drop (length p) n whole) ∙ ap (drop (length p)) left ∙ drop-append_seam p rest

  take_next : take (n + length p) whole ≡ take n whole ++ p
  take_next = take-add n (length p) whole ∙ rw (left, take-append_seam p rest)

  -- p behind what is there
  pub write_next : (out : List ℕ) → n ≤ length out →
      let there = take n whole ++ drop n out in
      take n there ++ overwrite p (drop n there) ≡ take (n + length p) whole ++ drop (n + length p) out
  unfolding overwrite
  write_next out h =
      let len : length (take n whole) ≡ n = length-take-le n whole lt in
      rw (take_at (take n whole) (drop n out) n len, drop_at (take n whole) (drop n out) n len, drop-drop, take_next, append_assoc)

-- the next entry is the first of what is left
pub next_is : (whole rest : List ℕ) (x n : ℕ) → drop n whole ≡ x ∷ rest → get_or whole n 0 ≡ x
next_is whole rest x n e = sym (rw add-zero at (get_or-drop n whole 0 0)) ∙ ap (λ (l : List ℕ). get_or l 0 0) e

-- nothing left: the whole is there
pub all_there : (whole out : List ℕ) (n : ℕ) → drop n whole ≡ [] → n ≤ length whole → take n whole ++ drop n out ≡ overwrite whole out
all_there whole out n e h =
    let all : n ≡ length whole = omega (arith, ap length e, length-drop n whole) in
    front_whole whole out n all

pub length_ends : (n : ℕ) (fs : List (List ℕ)) → length (ends_from n fs) ≡ length fs
unfolding ends_from
length_ends n [] = refl
length_ends n (f ∷ fs) = ap suc (length_ends (n + length f) fs)

pub length_flatten : (f : List ℕ) (fs : List (List ℕ)) → length (flatten (f ∷ fs)) ≡ length f + length (flatten fs)
unfolding flatten
length_flatten f fs = length-append f (flatten fs)

length_lead : (f : List ℕ) (fs : List (List ℕ)) → length (flatten (lead f fs)) ≡ length f + length (flatten fs)
length_lead [] fs = omega arith
length_lead (x ∷ f) fs = length_flatten (x ∷ f) fs

lead_le : (f : List ℕ) (fs : List (List ℕ)) → length (lead f fs) ≤ length f + length fs
lead_le [] fs = omega arith
lead_le (x ∷ f) fs = omega arith

-- the faces of a list have no more entries than the list, and there are no more of them
runs_few : (l : List ℕ) → (length (runs l).first + length (flatten (full (runs l).rest)) ≤ length l)
    × (length (runs l).first + length (full (runs l).rest) ≤ length l)
unfolding runs full flatten
runs_few [] = (omega arith, omega arith)
runs_few (x ∷ l) = go (eqb x separator) (runs_few l)
  where
    go : (b : Bool)
        → (length (runs l).first + length (flatten (full (runs l).rest)) ≤ length l) × (length (runs l).first + length (full (runs l).rest) ≤ length l)
        → (length (onto b x (runs l)).first + length (flatten (full (onto b x (runs l)).rest)) ≤ suc (length l))
        × (length (onto b x (runs l)).first + length (full (onto b x (runs l)).rest) ≤ suc (length l))
    go true h = (omega (arith, length_lead (runs l).first (full (runs l).rest)), omega (arith, lead_le (runs l).first (full (runs l).rest)))
    go false h = (omega arith, omega arith)

pub faces_few : (l : List ℕ) → (length (flatten (faces l)) ≤ length l) × (length (faces l) ≤ length l)
unfolding faces
faces_few l =
    let h = runs_few l in
    (omega (arith, length_lead (runs l).first (full (runs l).rest)), omega (arith, lead_le (runs l).first (full (runs l).rest)))
