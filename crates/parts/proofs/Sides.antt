-- Laws of a polygon's sides, read off by place.
use mathlib.Core.Path.{◌≡◌, refl}
use mathlib.Core.List.{List, [], ◌∷◌, ◌++◌}
use Prim.Native.Nat.{ℕ, zero, suc, ◌+◌, ◌<◌}
use native.Mathlib.Nat.{le_of_suc-le-suc, not-suc-le-zero}
use native.Mathlib.Omega.{arith}
use lib.ListN.{length, get_or, take, drop, set}
use Rattle.base.proofs.Lists.{front_more}
use Rattle.faces.specs.Edges.{along}
use Rattle.parts.specs.Subentities.{both_ends}

double : (i : ℕ) → suc i + suc i ≡ suc (suc (i + i))
double i = omega arith

module _ (f : ℕ) where
  pub length-sides : (r : List ℕ) → length (both_ends (along f r)) ≡ length r + length r
  unfolding along
  length-sides [] = refl
  length-sides (x ∷ r) = omega (arith, length-sides r)

  -- side i starts at node i
  pub side_from : (r : List ℕ) (i : ℕ) → i < length r → get_or (both_ends (along f r)) (i + i) 0 ≡ get_or r i 0
  unfolding along
  side_from [] i h = absurd (not-suc-le-zero h)
  side_from (x ∷ r) zero h = refl
  side_from (x ∷ r) (suc i) h = rw (double i) (side_from r i (le_of_suc-le-suc h))

  -- and ends at the next, or at f after the last
  pub side_to : (r : List ℕ) (i : ℕ) → i < length r → get_or (both_ends (along f r)) (suc (i + i)) 0 ≡ get_or r (suc i) f
  unfolding along
  side_to [] i h = absurd (not-suc-le-zero h)
  side_to (x ∷ r) zero h = refl
  side_to (x ∷ r) (suc i) h = rw (double i) (side_to r i (le_of_suc-le-suc h))

-- two more entries of a front that is written from the left
pub two_more : (xs out : List ℕ) (k : ℕ) → k + 1 < length xs → k + 1 < length out
    → set (set (take k xs ++ drop k out) k (get_or xs k 0)) (k + 1) (get_or xs (k + 1) 0) ≡ take (k + 1 + 1) xs ++ drop (k + 1 + 1) out
two_more xs out k h l =
    rw (front_more xs out k (omega arith) (omega arith)) (front_more xs out (k + 1) h l)

-- n nodes have n sides, of two ends each
pub ruleset side_lengths = length-sides
