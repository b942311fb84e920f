-- Every edge occurs exactly twice where none occurs more than once behind itself and half of them do once: what comes
-- behind each edge is enough to tell.
use Prim.Native.Nat.{ℕ, suc, ◌+◌, ◌≤◌}
use mathlib.Core.Path.{◌≡◌, refl, sym, ap, ◌∙◌}
use mathlib.Core.List.{List, [], ◌∷◌}
use mathlib.Core.Bool.{Bool, true, false, cond, ◌&&◌, ◌||◌, and_comm, or_comm}
use native.Mathlib.Omega.{arith}
use lib.Dec.{eqb, leb}
use lib.ListN.{length}
use borrow.Author.Tests.{eqb-true, eq-eqb, leb-true, le-leb}
use Rattle.base.proofs.Tests.{and-true}
use Rattle.faces.specs.Edges.{Edge, same, hits, count, twice}

-- the check of the edges es, where n edges were passed and p of them occur again
unfoldable pub paired : ℕ → ℕ → List Edge → Bool
paired p n [] = eqb n (p + p)
paired p n (e ∷ es) = leb (count e es) 1 && paired (p + count e es) (n + 1) es

-- none occurs more than once behind itself
abbrev few : List Edge → Bool
few [] = true
few (e ∷ es) = leb (count e es) 1 && few es

-- how many occur behind themselves
abbrev pairs : List Edge → ℕ
pairs [] = 0
pairs (e ∷ es) = count e es + pairs es

paired_is : (es : List Edge) (p n : ℕ)
    → paired p n es ≡ (few es && eqb (n + length es) ((p + pairs es) + (p + pairs es)))
unfolding paired
paired_is [] p n =
    let a : n + 0 ≡ n = omega arith in
    let b : p + 0 ≡ p = omega arith in
    rw (a, b)
paired_is (e ∷ es) p n =
    let a : n + 1 + length es ≡ n + suc (length es) = omega arith in
    let b : p + count e es + pairs es ≡ p + (count e es + pairs es) = omega arith in
    rw (paired_is es (p + count e es) (n + 1), a, b) (go (leb (count e es) 1))
  where
    go : (s : Bool) → (s && (few es && eqb (n + suc (length es)) (p + (count e es + pairs es) + (p + (count e es + pairs es)))))
        ≡ ((s && few es) && eqb (n + suc (length es)) (p + (count e es + pairs es) + (p + (count e es + pairs es))))
    go true = refl
    go false = refl

-- the same edge in either direction is an equivalence
crossed : (p q r s : Bool) → (p && q || r && s) ≡ (s && r || q && p)
crossed p q r s =
    or_comm (p && q) (r && s) ∙ ap (λ (b : Bool). b || p && q) (and_comm r s) ∙ ap (λ (b : Bool). s && r || b) (and_comm p q)

same_as : (d e x : Edge) → same d e ≡ true → same d x ≡ same e x
same_as d e x = go (eqb d.from e.from && eqb d.to e.to) refl
  where
    go : (s : Bool) → (eqb d.from e.from && eqb d.to e.to) ≡ s
        → (s || eqb d.from e.to && eqb d.to e.from) ≡ true → same d x ≡ same e x
    go true p h =
        let b = and-true (eqb d.from e.from) (eqb d.to e.to) p in
        rw (eqb-true d.from e.from b.0, eqb-true d.to e.to b.1)
    go false p h =
        let b = and-true (eqb d.from e.to) (eqb d.to e.from) h in
        rw (eqb-true d.from e.to b.0, eqb-true d.to e.from b.1)
        (crossed (eqb e.to x.from) (eqb e.from x.to) (eqb e.to x.to) (eqb e.from x.from))

same_self : (d : Edge) → same d d ≡ true
same_self d = rw (eq-eqb d.from d.from refl, eq-eqb d.to d.to refl)

same_sym : (d e : Edge) (s : Bool) → same d e ≡ s → same e d ≡ s
same_sym d e true h = sym (same_as d e d h) ∙ same_self d
same_sym d e false h = go (same e d) refl
  where
    go : (t : Bool) → same e d ≡ t → t ≡ false
    go true k = sym (sym h ∙ sym (same_as e d e k) ∙ same_self e)
    go false k = refl

same_count : (d e : Edge) → same d e ≡ true → (es : List Edge) → count d es ≡ count e es
unfolding count
same_count d e h [] = refl
same_count d e h (x ∷ es) = rw (same_as d e x h, same_count d e h es)

-- then no edge at all occurs more than twice
at_most_twice : (d : Edge) (es : List Edge) → few es ≡ true → count d es ≤ 2
unfolding count
at_most_twice d [] h = omega arith
at_most_twice d (e ∷ es) h =
    let b = and-true (leb (count e es) 1) (few es) h in
    go (same d e) refl (leb-true _ _ b.0) (at_most_twice d es b.1)
  where
    go : (s : Bool) → same d e ≡ s → count e es ≤ 1 → count d es ≤ 2 → cond s 1 0 + count d es ≤ 2
    go true q f g = omega (arith, same_count d e q es)
    go false q f g = omega arith

-- the occurrences of the edges ds among all
abbrev total : List Edge → List Edge → ℕ
total all [] = 0
total all (d ∷ ds) = count d all + total all ds

total_more : (e : Edge) (all ds : List Edge) → total (e ∷ all) ds ≡ count e ds + total all ds
unfolding count
total_more e all [] = refl
total_more e all (d ∷ ds) =
    let s : hits d e ≡ hits e d = rw (same_sym e d (same e d) refl) in
    omega (arith, total_more e all ds)

total_pairs : (es : List Edge) → total es es ≡ length es + (pairs es + pairs es)
unfolding count
total_pairs [] = refl
total_pairs (e ∷ es) =
    let s : hits e e ≡ 1 = rw (same_self e) in
    omega (arith, total_more e es es, total_pairs es)

-- counts of at most two that sum up to two each are two each
all_twice : (all ds : List Edge) → ((d : Edge) → count d all ≤ 2)
    → (total all ds ≤ length ds + length ds) × (total all ds ≡ length ds + length ds → twice all ds ≡ true)
unfolding twice
all_twice all [] f = (omega arith, λ h. refl)
all_twice all (d ∷ ds) f =
    let r = all_twice all ds f in
    let below = r.0 in
    let most = f d in (
      omega arith,
      λ h.
          let two : count d all ≡ 2 = omega arith in
          rw (two, r.1 (omega arith)),
    )

-- the other way: where each occurs twice, the sum is two each, and none occurs more than once behind itself
twice-total : (all ds : List Edge) → twice all ds ≡ true → total all ds ≡ length ds + length ds
unfolding twice
twice-total all [] h = refl
twice-total all (d ∷ ds) h =
    let b = and-true (eqb (count d all) 2) (twice all ds) h in
    omega (arith, eqb-true (count d all) 2 b.0, twice-total all ds b.1)

twice_few : (all es : List Edge) → ((d : Edge) → count d es ≤ count d all) → twice all es ≡ true → few es ≡ true
unfolding twice count
twice_few all [] f h = refl
twice_few all (e ∷ es) f h =
    let b = and-true (eqb (count e all) 2) (twice all es) h in
    let s : hits e e ≡ 1 = rw (same_self e) in
    let one : count e es ≤ 1 = omega (arith, eqb-true (count e all) 2 b.0, f e) in
    rw (le-leb _ _ one) (twice_few all es (λ d. omega (arith, f d)) b.1)

-- the check is what it stands for
pub paired_twice : (es : List Edge) → paired 0 0 es ≡ twice es es
paired_twice es = paired_is es 0 0 ∙ go (few es) _ (twice es es) refl refl refl
  where
    half : ℕ
    half = 0 + pairs es

    go : (s t u : Bool) → few es ≡ s → eqb (0 + length es) (half + half) ≡ t → twice es es ≡ u → (s && t) ≡ u
    go true true true a b c = refl
    go true true false a b c =
        let n : 0 + length es ≡ half + half = eqb-true _ _ b in
        let h : total es es ≡ length es + length es = omega (arith, total_pairs es) in
        sym ((all_twice es es (λ d. at_most_twice d es a)).1 h) ∙ c
    go true false true a b c =
        let h : 0 + length es ≡ half + half = omega (arith, total_pairs es, twice-total es es c) in
        sym b ∙ eq-eqb _ _ h
    go true false false a b c = refl
    go false t true a b c = sym a ∙ twice_few es es (λ d. omega arith) c
    go false t false a b c = refl
