-- What holds of an input that none of the refusals 1 to 4 meets.
use mathlib.Core.Path.{◌≡◌, refl}
use mathlib.Core.Bool.{Bool, true, false, cond, not}
use mathlib.Core.List.{List}
use Prim.Native.Nat.{ℕ, ◌≤◌, ◌%◌}
use lib.Dec.{ltb}
use lib.ListN.{length}
use borrow.Author.Tests.{eqb-true, eqb-false, ne_eqb, ltb-false, not-false}
use Rattle.base.specs.Kinds.{is_kind, nodes_of, element_limit, block_limit}
use Rattle.base.specs.Checks.{element_fits, block_fits, strays, input_refusal, element_refusal, block_refusal}

-- a chain of four tests that refuses nothing: each test fails
none_of : (a b c d : Bool) → ◌≡◌ {A = ℕ} (cond a 1 (cond b 2 (cond c 3 (cond d 4 0)))) 0
    → (a ≡ false) × (b ≡ false) × (c ≡ false) × (d ≡ false)
none_of true b c d h = absurd (eqb-false 1 0 refl h)
none_of false true c d h = absurd (eqb-false 2 0 refl h)
none_of false false true d h = absurd (eqb-false 3 0 refl h)
none_of false false false true h = absurd (eqb-false 4 0 refl h)
none_of false false false false h = (refl, refl, refl, refl)

pub record Accepted (limit : ℕ) (fits : Bool) (kind : ℕ) (ids : List ℕ) : Type 0 where
  pub known : is_kind kind ≡ true
  pub few : length ids ≤ limit
  pub right : fits ≡ true
  pub clean : strays kind ids ≡ false

pub accepted : (limit : ℕ) (fits : Bool) (kind : ℕ) (ids : List ℕ)
    → input_refusal limit fits kind ids ≡ 0 → Accepted limit fits kind ids
unfolding input_refusal
accepted limit fits kind ids h =
    let t = none_of (not (is_kind kind)) (ltb limit (length ids)) (not fits) (strays kind ids) h in
    record { known = not-false _ t.0; few = ltb-false _ _ t.1; right = not-false _ t.2; clean = t.3 }

module _ (kind : ℕ) (ids : List ℕ) where
  pub element_accepted : element_refusal kind ids ≡ 0
      → Accepted element_limit (element_fits kind (length ids)) kind ids
  unfolding element_refusal
  element_accepted h = accepted element_limit _ kind ids h

  pub block_accepted : block_refusal kind ids ≡ 0 → Accepted block_limit (block_fits kind (length ids)) kind ids
  unfolding block_refusal
  block_accepted h = accepted block_limit _ kind ids h

  -- an element of a kind that fixes its node count has that many nodes
  pub element_nodes : element_refusal kind ids ≡ 0 → (nodes_of kind ≡ 0 → ⊥) → length ids ≡ nodes_of kind
  unfolding element_fits
  element_nodes h n =
      eqb-true _ _ (simp (ne_eqb (nodes_of kind) 0 n) at (element_accepted h).right)

  -- a block of such a kind is a multiple of it
  pub block_nodes : block_refusal kind ids ≡ 0 → (nodes_of kind ≡ 0 → ⊥) → length ids % nodes_of kind ≡ 0
  unfolding block_fits
  block_nodes h n = eqb-true _ _ (simp (ne_eqb (nodes_of kind) 0 n) at (block_accepted h).right)
