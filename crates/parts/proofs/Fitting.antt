-- Laws of the rows of digits in the code: what makes a row fit.
use mathlib.Core.Path.{◌≡◌, refl}
use mathlib.Core.Bool.{Bool, true, false}
use mathlib.Core.List.{List, [], ◌∷◌}
use Prim.Native.Nat.{ℕ, zero, suc, ◌-◌, ◌<◌, ◌≤◌}
use native.Mathlib.Nat.{le_of_suc-le-suc, not-suc-le-zero}
use native.Mathlib.Omega.{arith}
use lib.Dec.{eqb, leb, ltb}
use lib.ListN.{length, get_or}
use borrow.Author.Tests.{eqb-false, ne_eqb, leb-true, ltb-true}
use Rattle.base.specs.Checks.{element_refusal}
use Rattle.base.specs.Kinds.{nodes_of}
use Rattle.base.proofs.Accepted.{element_nodes}
use Rattle.base.proofs.Picks.{length-undigit}
use Rattle.base.proofs.Tests.{and-true}
use Rattle.parts.specs.Inner.Fit.{HasNodes, fit, fits}

-- an element that is not refused has the nodes that its kind fixes, so a row of corners below them fits it
pub nodes_are : (kind k : ℕ) (ids : List ℕ) → element_refusal kind ids ≡ 0 → kind ≡ k → ltb 0 (nodes_of k) ≡ true
    → length ids ≡ nodes_of k
nodes_are kind k ids ok e t =
    let some : 0 < nodes_of k = ltb-true 0 (nodes_of k) t in
    element_nodes k ids (rw e at ok) (λ none. omega arith)

pub has_nodes : (kind number : ℕ) (ids : List ℕ) → element_refusal number ids ≡ 0 → kind ≡ number → HasNodes kind ids
has_nodes kind number ids ok e = go (eqb (nodes_of kind) 0) refl
  where
    go : (b : Bool) → eqb (nodes_of kind) 0 ≡ b → HasNodes kind ids
    go true t = rw t tt
    go false t = rw t (element_nodes kind ids (rw (← e) at ok) (eqb-false (nodes_of kind) 0 t))

-- each digit of a row that fits does
pub fits_at : (n : ℕ) (row : List ℕ) (i : ℕ) → fits n row ≡ true → i < length row → fit n (get_or row i 0) ≡ true
fits_at n [] i h l = absurd (not-suc-le-zero l)
fits_at n (d ∷ row) zero h l = (and-true (fit n d) (fits n row) h).0
fits_at n (d ∷ row) (suc i) h l = fits_at n row i (and-true (fit n d) (fits n row) h).1 (le_of_suc-le-suc l)

-- a digit that fits and is not the colon names a corner that is there
pub fit-corner : (n digit : ℕ) → fit n digit ≡ true → (digit ≡ 58 → ⊥) → (48 ≤ digit) × (digit - 48 < n)
fit-corner n digit h ne =
    let t = and-true (leb 48 digit) (ltb (digit - 48) n) (simp (ne_eqb digit 58 ne) at h) in
    (leb-true 48 digit t.0, ltb-true (digit - 48) n t.1)

-- a row picks as many ids as it has digits
pub ruleset row_lengths = length-undigit
