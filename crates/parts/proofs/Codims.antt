-- Laws of codimensions: which a kind has, and that only a PHED at codimension 1 has ends.
use mathlib.Core.Path.{◌≡◌, refl}
use mathlib.Core.Bool.{Bool, true, false, cond, ◌&&◌, ◌||◌}
use mathlib.Core.List.{List, []}
use Prim.Native.Nat.{ℕ, ◌≤◌}
use native.Mathlib.Omega.{arith}
use lib.Dec.{eqb, leb, ltb}
use lib.ListN.{length}
use borrow.Author.Tests.{eqb-true, eqb-false, ne_eqb, leb-true, ltb-false}
use Rattle.base.specs.Outcome.{Permits, settle_two}
use Rattle.base.proofs.Settle.{settle_one_refuses, settle_two_refuses, only_first}
use Rattle.base.proofs.Tests.{and-true}
use Rattle.faces.specs.Edges.{cycle}
use Rattle.parts.specs.declared.subentities.Parts.{Parts}
use Rattle.parts.specs.Subentities.{depth, codim_refusal, alike, both_ends, table_parts, entities, refused_parts, given_parts}
use Rattle.parts.specs.Inner.Lent.{by_kind}

-- a codimension that is not refused is one of the kind's table, and at most 3
pub allowed : (kind codim : ℕ) → codim_refusal kind codim ≡ 0 → (1 ≤ codim) × (codim ≤ 3) × (codim ≤ depth kind)
unfolding codim_refusal
allowed kind codim h =
    let t = go (ltb 3 codim) (leb 1 codim && leb codim (depth kind)) (eqb kind 19 || eqb (depth kind) 0) h in
    let u = and-true (leb 1 codim) (leb codim (depth kind)) t.1 in
    (leb-true 1 codim u.0, ltb-false 3 codim t.0, leb-true codim (depth kind) u.1)
  where
    go : (a b c : Bool) → ◌≡◌ {A = ℕ} (cond a 5 (cond b 0 (cond c 6 5))) 0 → (a ≡ false) × (b ≡ true)
    go true b c e = absurd (eqb-false 5 0 refl e)
    go false true c e = (refl, refl)
    go false false true e = absurd (eqb-false 6 0 refl e)
    go false false false e = absurd (eqb-false 5 0 refl e)

-- only a PHED has ends
pub no_ends : (kind codim : ℕ) (ids : List ℕ) → eqb kind 19 ≡ false → (entities kind codim ids).ends ≡ []
unfolding entities
no_ends kind codim ids other = rw other (go (eqb kind 18) (eqb codim 1))
  where
    go : (b d : Bool) → (cond b (cond d (alike 2 (length ids) (both_ends (cycle ids)) []) (alike 1 (length ids) ids [])) (table_parts kind codim ids)).ends ≡ []
    go true true = refl
    go true false = refl
    go false d = refl

-- what may be answered and written at a codimension by a kind without ends, the operation may, with the second slice left alone
pub alone : (kind codim : ℕ) (ids : List ℕ) → (codim_refusal kind codim ≡ 0 → eqb kind 19 ≡ false)
    → (out ends : List ℕ) (r : Parts) (out' : List ℕ) → Permits (by_kind kind codim ids out) r out'
    → let e = entities kind codim ids in
    Permits (settle_two refused_parts (codim_refusal kind codim) (given_parts e) e.ids e.ends (out, ends)) r (out', ends)
alone kind codim ids other out ends r out' p = go (eqb (codim_refusal kind codim) 0) refl
  where
    go : (b : Bool) → eqb (codim_refusal kind codim) 0 ≡ b
        → let e = entities kind codim ids in
        Permits (settle_two refused_parts (codim_refusal kind codim) (given_parts e) e.ids e.ends (out, ends)) r (out', ends)
    go true e = rw (no_ends kind codim ids (other (eqb-true _ 0 e))) (only_first refused_parts _ _ _ out ends r out' p)
    go false e =
        let q = rw (settle_one_refuses refused_parts (codim_refusal kind codim) _ _ out (eqb-false _ 0 e)) at p in
        rw (settle_two_refuses refused_parts (codim_refusal kind codim) _ _ _ out ends (eqb-false _ 0 e))
        (record { answered = q.answered; left = rw q.left })

-- a PHED is refused at every codimension but 1
pub no_phed : (kind codim : ℕ) → (codim ≡ 1 → ⊥) → codim_refusal kind codim ≡ 0 → eqb kind 19 ≡ false
unfolding depth
no_phed kind codim other h =
    ne_eqb kind 19 (λ e.
    let t = allowed kind codim h in
    let one : codim ≤ 1 = rw e at t.2 in
    let same : codim ≡ 1 = omega arith in
    other same)
