-- `split_cell` meets its contract: 24 places hold any split, and the writer fills them from the front.
use borrow.Author.Tests.{le-leb, leb-true, leb-false, eqb-true, eqb-false}
use mathlib.Core.Path.{◌≡◌, refl, sym, ap, subst}
use mathlib.Core.Bool.{Bool, true, false, cond, ◌&&◌, false≢true}
use mathlib.Core.List.{List, []}
use mathlib.Core.Logic.{◌⊎◌, inl, inr}
use Prim.Native.Nat.{ℕ, ◌≤◌}
use native.Mathlib.Omega.{arith}
use lib.Dec.{eqb, leb}
use lib.ListN.{replicate}
use Rattle.std.specs.Prelude.{Some, None, Result, Ok, Err}
use Rattle.std.specs.Result.{result_ok}
use Rattle.base.specs.Gather.{pick}
use Rattle.base.specs.Kinds.{is_kind}
use Rattle.base.specs.Inner.Numbers.{IsOfKind, answer_of, number_of}
use Rattle.base.specs.Outcome.{Outcome, Permits, given, overwrite, settle}
use Rattle.base.specs.declared.kinds.Kind.{Kind}
use Rattle.base.specs.declared.refusals.Answer.{Answer}
use Rattle.base.specs.declared.refusals.Given.{Given}
use Rattle.base.specs.declared.refusals.Refusal.{Refusal}
use Rattle.base.proofs.Settle.{settle_refuses, settle_gives}
use Rattle.cuts.specs.Split.{cut, by, simplexes, split, split_count, split_kind}
use Rattle.cuts.proofs.Cuts.{split_most}
use Rattle.simplexes.specs.ByValue.{split_cell}
use Rattle.simplexes.specs.Inner.Value.{by_value}
use Rattle.simplexes.specs.Inner.Written.{SplitInto}
use Rattle.simplexes.proofs.Settled.{numbered}
use Rattle.simplexes.proofs.split_cell.Goals as goal

-- no kind of 1 to 16 is without a rule
without : (kind : ℕ) → split_kind kind ≡ 0 → (kind ≡ 0) ⊎ (17 ≤ kind)
unfolding split_kind
without kind h = go (leb 17 kind) (leb 11 kind) (leb 5 kind) (leb 2 kind) (leb 1 kind) refl refl h
  where
    go : (a b c d e : Bool) → leb 17 kind ≡ a → leb 1 kind ≡ e → ◌≡◌ {A = ℕ} (cond a 0 (cond b 11 (cond c 5 (cond d 2 (cond e 1 0))))) 0 → (kind ≡ 0) ⊎ (17 ≤ kind)
    go true b c d e p q h = inr (leb-true 17 kind p)
    go false true c d e p q h = absurd (eqb-false 11 0 refl h)
    go false false true d e p q h = absurd (eqb-false 5 0 refl h)
    go false false false true e p q h = absurd (eqb-false 2 0 refl h)
    go false false false false true p q h = absurd (eqb-false 1 0 refl h)
    go false false false false false p q h = let l = leb-false 1 kind q in inl (omega arith)

-- a kind without a rule has no rows
no_rows : (kind : ℕ) (ids : List ℕ) → (kind ≡ 0) ⊎ (17 ≤ kind) → cut kind ids ≡ by ids []
unfolding cut
no_rows kind ids (inl e) = rw e
no_rows kind ids (inr l) = rw (le-leb 17 kind l)

none_cell : (kind : ℕ) (ids : List ℕ) → split_kind kind ≡ 0 → by_value None ≡ split_cell kind ids
unfolding split_cell split_count split simplexes pick overwrite
none_cell kind ids h = rw (no_rows kind ids (without kind h), h)

-- a number that is no kind's is without a rule
no_kind : (kind : ℕ) → is_kind kind ≡ false → split_kind kind ≡ 0
unfolding split_kind
no_kind kind h = go (leb 1 kind) (leb kind 19) refl refl h
  where
    go : (a b : Bool) → leb 1 kind ≡ a → leb kind 19 ≡ b → (a && b) ≡ false → split_kind kind ≡ 0
    go true true p q h = absurd (false≢true (sym h))
    go true false p q h = let l : 17 ≤ kind = omega (arith, leb-false kind 19 q) in rw (le-leb 17 kind l)
    go false b p q h = let l = leb-false 1 kind p in let e : kind ≡ 0 = omega arith in rw e

unknown : (kind : ℕ) (r : Result Kind Refusal) → None ≡ result_ok r → IsOfKind kind r → split_kind kind ≡ 0
unknown kind (Ok k) e h = cc
unknown kind (Err why) e h = no_kind kind h.1

of_kind : (kind : ℕ) (r : Result Kind Refusal) (k : Kind) → Some k ≡ result_ok r → IsOfKind kind r → number_of k ≡ kind
of_kind kind (Ok j) k e h = cc
of_kind kind (Err why) k e h = cc

-- what a writer into 24 places leaves there
module _ (kind : ℕ) (ids : List ℕ) (lent : List ℕ) where
  -- with a rule there is room
  ruled : ◌≡◌ {A = ℕ} (cond (eqb (split_kind kind) 0) 6 0) 0
      → settle (cond (eqb (split_kind kind) 0) 6 0) (split_kind kind) (split_count kind ids) (split kind ids) (replicate 24 0)
      ≡ record { answer = given (split_kind kind) (split_count kind ids); lent = overwrite (split kind ids) (replicate 24 0) }
  ruled none = settle_gives _ _ _ _ _ none (split_most kind ids)

  given_as : (g : Given) → SplitInto kind ids (replicate 24 0) (Ok g) lent → by_value (Some (record { kind = g.kind; count = g.count; ids = lent })) ≡ split_cell kind ids
  unfolding split_cell
  given_as g p = go (eqb (split_kind kind) 0) refl
    where
      go : (b : Bool) → eqb (split_kind kind) 0 ≡ b → by_value (Some (record { kind = g.kind; count = g.count; ids = lent })) ≡ split_cell kind ids
      go true e =
          let six : ◌≡◌ {A = ℕ} (cond (eqb (split_kind kind) 0) 6 0) 6 = rw e in
          let q = rw (settle_refuses (cond (eqb (split_kind kind) 0) 6 0) (split_kind kind) (split_count kind ids) (split kind ids) (replicate 24 0) (λ h. absurd (omega (arith, six, h)))) at p in
          absurd (omega (arith, six, ap (λ (a : Answer). a.refusal) q.answered))
      go false e =
          let none : ◌≡◌ {A = ℕ} (cond (eqb (split_kind kind) 0) 6 0) 0 = rw e in
          let q = subst (λ (o : Outcome Answer (List ℕ)). Permits o (answer_of (Ok g)) lent) (ruled none) p in
          rw (ap (λ (a : Answer). a.kind) q.answered, ap (λ (a : Answer). a.count) q.answered, q.left)

  -- where it refuses, there is no rule
  refused_as : (r : Refusal) → SplitInto kind ids (replicate 24 0) (Err r) lent → by_value None ≡ split_cell kind ids
  refused_as r p = go (eqb (split_kind kind) 0) refl
    where
      go : (b : Bool) → eqb (split_kind kind) 0 ≡ b → by_value None ≡ split_cell kind ids
      go true e = none_cell kind ids (eqb-true (split_kind kind) 0 e)
      go false e =
          let none : ◌≡◌ {A = ℕ} (cond (eqb (split_kind kind) 0) 6 0) 0 = rw e in
          let q = subst (λ (o : Outcome Answer (List ℕ)). Permits o (answer_of (Err r)) lent) (ruled none) p in
          absurd (numbered r (ap (λ (a : Answer). a.refusal) q.answered))

-- either, of a result whose value is asked for
asked_given : (kind : ℕ) (ids : List ℕ) (r : Result Given Refusal) (g : Given) (lent : List ℕ) → Some g ≡ result_ok r
    → SplitInto kind ids (replicate 24 0) r lent → by_value (Some (record { kind = g.kind; count = g.count; ids = lent })) ≡ split_cell kind ids
asked_given kind ids (Ok h) g lent e p = let is : h ≡ g = cc in given_as kind ids lent g (rw is at p)
asked_given kind ids (Err why) g lent e p = absurd (cc)

asked_refused : (kind : ℕ) (ids : List ℕ) (r : Result Given Refusal) (lent : List ℕ) → None ≡ result_ok r
    → SplitInto kind ids (replicate 24 0) r lent → by_value None ≡ split_cell kind ids
asked_refused kind ids (Ok h) lent e p = absurd (cc)
asked_refused kind ids (Err why) lent e p = refused_as kind ids lent why p

pub returns-in_err-cell : goal.returns-in_err-cell
returns-in_err-cell c =
    rw c.from_residual.ensures (none_cell c.args.kind c.args.ids.now (unknown c.args.kind c.try_from.result c.in_err-cell.ensures.value c.try_from.ensures))

pub returns-in_err-given : goal.returns-in_err-given
returns-in_err-given c =
    let k = of_kind c.args.kind c.try_from.result c.in_ok-cell.cell c.in_ok-cell.ensures.value c.try_from.ensures in
    rw (c.from_residual-in_err-given.ensures, ← k)
    (asked_refused (number_of c.in_ok-cell.cell) c.args.ids.now c.write_cell.result c.write_cell.new.out c.in_err-given.ensures.value c.write_cell.ensures)

pub returns : goal.returns
returns c =
    let k = of_kind c.args.kind c.try_from.result c.in_ok-cell.cell c.in_ok-cell.ensures.value c.try_from.ensures in
    rw (← k) (asked_given (number_of c.in_ok-cell.cell) c.args.ids.now c.write_cell.result c.in_ok-given.given c.write_cell.new.out c.in_ok-given.ensures.value c.write_cell.ensures)
