-- Laws of faces joined in one list, and how they are written one behind another.
use Rattle.std.proofs.Common.{◌≡◌, ℕ, suc, ◌+◌, ◌-◌, ◌<◌, ◌≤◌, eqb, true, false, Bool, List, [], ◌∷◌, ◌++◌, map, length, drop, set, refl, add-one, arith, length-append, get_or, drop-cons}
use lib.Seq.{append_snoc, set_at}
use Rattle.base.specs.Outcome.{overwrite}
use Rattle.base.specs.Kinds.{separator}
use Rattle.faces.specs.Faces.{onto, runs, lead, full, faces, joined, further}

-- ---- faces that are changed and keep their lengths

module _ (g : List ℕ → List ℕ) (keeps : (f : List ℕ) → length (g f) ≡ length f) where
  further-length : (fs : List (List ℕ)) → length (further separator (map g fs)) ≡ length (further separator fs)
  unfolding further
  further-length [] = refl
  further-length (f ∷ fs) = simp length-append (omega (arith, keeps f, further-length fs))

  pub joined_length : (fs : List (List ℕ)) → length (joined separator (map g fs)) ≡ length (joined separator fs)
  unfolding joined
  joined_length [] = refl
  joined_length (f ∷ fs) = simp length-append (omega (arith, keeps f, further-length fs))

-- ---- how many entries they take

led : (r : List ℕ) (fs : List (List ℕ)) → length (further separator (lead r fs)) ≤ length r + 1 + length (further separator fs)
unfolding further
led [] fs = omega arith
led (x ∷ r) fs = simp length-append (omega arith)

run_entries : (l : List ℕ) → length (runs l).first + length (further separator (full (runs l).rest)) ≤ length l
unfolding runs full further
run_entries [] = omega arith
run_entries (x ∷ l) = go (eqb x separator) (run_entries l)
  where
    go : (b : Bool) → length (runs l).first + length (further separator (full (runs l).rest)) ≤ length l
        → length (onto b x (runs l)).first + length (further separator (full (onto b x (runs l)).rest)) ≤ suc (length l)
    go true h = omega (arith, led (runs l).first (full (runs l).rest))
    go false h = omega arith

-- a list has no more entries than its faces do, each with a separator before it, but for one separator
pub few_entries : (l : List ℕ) → length (further separator (faces l)) ≤ length l + 1
unfolding faces
few_entries l = omega (arith, led (runs l).first (full (runs l).rest), run_entries l)

-- no separator stands behind the last
pub joined_entries : (fs : List (List ℕ)) → length (further separator fs) - 1 ≡ length (joined separator fs)
unfolding joined further
joined_entries [] = refl
joined_entries (f ∷ fs) = simp length-append (omega arith)

-- ---- how they are written

-- a separator behind what is written
pub separator_behind : (done out : List ℕ) → length done < length out
    → set (overwrite done out) (length done) separator ≡ overwrite (done ++ separator ∷ []) out
unfolding overwrite
separator_behind done out h =
    rw (drop-cons out (length done) 0 h, length-append, add-one, append_snoc)
    (set_at done (get_or out (length done) 0) (drop (suc (length done)) out) separator (length done) refl)
