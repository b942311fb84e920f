-- The ids of a whole record, and why more ids than any fixed kind has are refused.
use mathlib.Core.Path.{◌≡◌, refl}
use mathlib.Core.Bool.{Bool, true, false, cond, not, ◌&&◌, ◌||◌}
use mathlib.Core.List.{List, ◌∷◌}
use Prim.Native.Nat.{ℕ, ◌-◌, ◌/◌, ◌<◌, ◌≤◌}
use native.Mathlib.Omega.{arith}
use lib.Dec.{T, eqb, leb, ltb}
use lib.ListN.{length, take, drop, length-drop, get_or-eq_default}
use borrow.Author.Tests.{eq-eqb, ne_eqb, eqb-true, eqb-false, le-leb, le-ltb, lt-ltb, leb-true, ltb-true, ltb-false}
use Rattle.base.specs.Checks.{element_fits, element_refusal, input_refusal, strays}
use Rattle.base.specs.Kinds.{is_kind, node_counts, nodes_of}
use Rattle.base.proofs.Lists.{rest_whole}
use Rattle.base.proofs.Tables.{at}
use Rattle.base.proofs.Numbers.{kind_is_kind}
use Rattle.base.proofs.Tests.{and-true}
use Rattle.std.specs.Option.{is_some}
use Rattle.std.specs.Prelude.{None, Some}
use Rattle.base.specs.Inner.Numbers.{number_of, some_unless_zero}
use Rattle.base.specs.declared.kinds.Kind.{Kind}
use Rattle.records.specs.Wire.{ids_in}
use Rattle.records.proofs.Frames.{Stands}
use Rattle.cuts.specs.Split.{split_kind, split_refusal}

-- the ids of a record with no byte behind it are all the rest of the bytes
pub record_ids : (bytes : List ℕ) (start count next : ℕ) → Stands (length bytes) start count next → next ≡ length bytes
    → ids_in (length (take (next - start) (drop start bytes)) / 8) (take (next - start) (drop start bytes)) ≡ ids_in count (drop start bytes)
record_ids bytes start count next s e =
    let size : length (drop start bytes) / 8 ≡ count = rw length-drop (omega (arith, s.eights)) in
    rw (e, rest_whole bytes start, size)

holds : (b : Bool) → T b → b ≡ true
holds true t = refl
holds false t = absurd t

-- a kind with a number below 17 fixes its node count: 1 to 21
abbrev fixes : ℕ → ℕ → Bool
fixes kind nodes = eqb kind 0 || (ltb 0 nodes && leb nodes 21)

fixed : (kind : ℕ) → 1 ≤ kind → kind < 17 → (0 < nodes_of kind) × (nodes_of kind ≤ 21)
unfolding nodes_of
fixed kind l h =
    let t : fixes kind (nodes_of kind) ≡ true = holds (fixes kind (nodes_of kind)) (at fixes (0 ∷ node_counts) tt kind h) in
    let k : eqb kind 0 ≡ false = ne_eqb kind 0 (omega arith) in
    let both = and-true (ltb 0 (nodes_of kind)) (leb (nodes_of kind) 21) (rw k at t) in
    (ltb-true 0 (nodes_of kind) both.0, leb-true (nodes_of kind) 21 both.1)

free : (kind : ℕ) → 17 ≤ kind → nodes_of kind ≡ 0
unfolding nodes_of
free kind h = get_or-eq_default (0 ∷ node_counts) 0 h

or-true : (a : Bool) → (a || true) ≡ true
or-true true = refl
or-true false = refl

-- more than 21 ids of a kind: 3 where it fixes its node count, else 4 or 6
module _ (kind : ℕ) (ids : List ℕ) (many : 21 < length ids) (few : length ids ≤ 4096) where
  pub long_unknown : is_kind kind ≡ false → split_refusal kind ids ≡ 1
  unfolding split_refusal element_refusal input_refusal
  long_unknown e = simp e

  pub long_fixed : is_kind kind ≡ true → kind < 17 → split_refusal kind ids ≡ 3
  unfolding split_refusal element_refusal input_refusal element_fits
  long_fixed e h =
      let k = and-true (leb 1 kind) (leb kind 19) e in
      let n = fixed kind (leb-true 1 kind k.0) h in
      simp (e, le-ltb 4096 (length ids) few, ne_eqb (nodes_of kind) 0 (omega (arith, n.0)), ne_eqb (length ids) (nodes_of kind) (omega (arith, n.1)))

  pub long_free : (b : Bool) → is_kind kind ≡ true → 17 ≤ kind → strays kind ids ≡ b → split_refusal kind ids ≡ cond b 4 6
  unfolding split_refusal element_refusal input_refusal element_fits split_kind
  long_free true e h s =
      simp (e, le-ltb 4096 (length ids) few, eq-eqb (nodes_of kind) 0 (free kind h), lt-ltb 0 (length ids) (omega arith), or-true (eqb kind 19), s)
  long_free false e h s =
      simp (e, le-ltb 4096 (length ids) few, eq-eqb (nodes_of kind) 0 (free kind h), lt-ltb 0 (length ids) (omega arith), or-true (eqb kind 19), s, le-leb 17 kind h)

  -- all that can be said of a kind, by whether it fixes its node count
  pub long_known : (of : Kind) → number_of of ≡ kind → split_refusal kind ids ≡ cond (eqb (nodes_of kind) 0) (cond (strays kind ids) 4 6) 3
  long_known of e = go (eqb (nodes_of kind) 0) refl
    where
      known : is_kind kind ≡ true
      known = rw e at (kind_is_kind of)

      positive : 1 ≤ kind
      positive = leb-true 1 kind (and-true (leb 1 kind) (leb kind 19) known).0

      above : (b : Bool) → ltb kind 17 ≡ b → nodes_of kind ≡ 0 → 17 ≤ kind
      above true t z = absurd (omega (arith, (fixed kind positive (ltb-true kind 17 t)).0, z))
      above false t z = ltb-false kind 17 t

      below : (b : Bool) → ltb kind 17 ≡ b → (nodes_of kind ≡ 0 → ⊥) → kind < 17
      below true t n = ltb-true kind 17 t
      below false t n = absurd (n (free kind (ltb-false kind 17 t)))

      go : (b : Bool) → eqb (nodes_of kind) 0 ≡ b → split_refusal kind ids ≡ cond b (cond (strays kind ids) 4 6) 3
      go true f = long_free (strays kind ids) known (above (ltb kind 17) refl (eqb-true _ 0 f)) refl
      go false f = long_fixed known (below (ltb kind 17) refl (eqb-false _ 0 f))

-- where the paper has 0 for none, there is something unless it is 0
pub some_is : (n : ℕ) (b : Bool) → is_some (some_unless_zero n) ≡ b → eqb n 0 ≡ not b
some_is n b h = go (eqb n 0) h
  where
    go : (z : Bool) → is_some (cond z None (Some n)) ≡ b → z ≡ not b
    go true h = rw (← h)
    go false h = rw (← h)
