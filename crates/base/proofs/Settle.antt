-- The three ways in which an operation ends, each once for every operation, and that a contract permits one outcome only.
use mathlib.Core.Path.{◌≡◌, refl, sym, ap, ◌∙◌}
use mathlib.Core.Bool.{Bool, true, false, cond, ◌||◌}
use mathlib.Core.List.{List, []}
use Prim.Native.Nat.{ℕ, ◌<◌, ◌≤◌, zero-le}
use lib.Dec.{eqb, ltb}
use lib.ListN.{length}
use borrow.Author.Tests.{lt-ltb, le-ltb, eq-eqb, ne_eqb, eqb-true, eqb-false}
use Rattle.base.specs.Outcome.{Outcome, Permits, or_else, decide, settle, settle_one, settle_two, overwrite, refused, given}

-- two permitted outcomes coincide, for every operation and whatever is lent
pub coincide : {A L : Type 0} (o : Outcome A L) (a b : A) (x y : L)
    → Permits o a x → Permits o b y → (a ≡ b) × (x ≡ y)
coincide o a b x y p q = (p.answered ∙ sym q.answered, p.left ∙ sym q.left)

-- a chain of refusals: the first that is not 0 is the whole's
pub or_else_first : (why other : ℕ) → (why ≡ 0 → ⊥) → or_else why other ≡ why
or_else_first why other h = simp (ne_eqb why 0 h)

pub or_else_next : (why other : ℕ) → why ≡ 0 → or_else why other ≡ other
or_else_next why other h = simp (eq-eqb why 0 h)

pub or_else_none : (why other : ℕ) → or_else why other ≡ 0 → (why ≡ 0) × (other ≡ 0)
or_else_none why other h = go (eqb why 0) refl h
  where
    go : (b : Bool) → eqb why 0 ≡ b → cond b other why ≡ 0 → (why ≡ 0) × (other ≡ 0)
    go true e t = (eqb-true why 0 e, t)
    go false e t = absurd (eqb-false why 0 e t)

module _ {A L : Type 0} (refusal : ℕ → A) (why : ℕ) (gives : Outcome A L) (lent : L) where
  pub decide_refuses : (short : Bool) → (why ≡ 0 → ⊥)
      → decide refusal why short gives lent ≡ record { answer = refusal why; lent = lent }
  unfolding decide
  decide_refuses short h = simp (ne_eqb why 0 h)

  pub decide_short : why ≡ 0 → decide refusal why true gives lent ≡ record { answer = refusal 7; lent = lent }
  unfolding decide
  decide_short h = simp (eq-eqb why 0 h)

  pub decide_gives : why ≡ 0 → decide refusal why false gives lent ≡ gives
  unfolding decide
  decide_gives h = simp (eq-eqb why 0 h)

-- one lent slice
module _ {A : Type 0} (refusal : ℕ → A) (why : ℕ) (answer : A) (xs out : List ℕ) where
  pub settle_one_refuses : (why ≡ 0 → ⊥) → settle_one refusal why answer xs out ≡ record { answer = refusal why; lent = out }
  unfolding settle_one
  settle_one_refuses h = decide_refuses refusal why _ out _ h

  pub settle_one_short : why ≡ 0 → length out < length xs
      → settle_one refusal why answer xs out ≡ record { answer = refusal 7; lent = out }
  unfolding settle_one
  settle_one_short h l = rw (lt-ltb (length out) (length xs) l) (decide_short refusal why _ out h)

  pub settle_one_gives : why ≡ 0 → length xs ≤ length out
      → settle_one refusal why answer xs out ≡ record { answer = answer; lent = overwrite xs out }
  unfolding settle_one
  settle_one_gives h l = rw (le-ltb (length out) (length xs) l) (decide_gives refusal why _ out h)

-- one lent slice and the answer of most operations
module _ (why kind count : ℕ) (xs out : List ℕ) where
  pub settle_refuses : (why ≡ 0 → ⊥) → settle why kind count xs out ≡ record { answer = refused why; lent = out }
  unfolding settle
  settle_refuses h = settle_one_refuses refused why (given kind count) xs out h

  pub settle_short : why ≡ 0 → length out < length xs
      → settle why kind count xs out ≡ record { answer = refused 7; lent = out }
  unfolding settle
  settle_short h l = settle_one_short refused why (given kind count) xs out h l

  pub settle_gives : why ≡ 0 → length xs ≤ length out
      → settle why kind count xs out ≡ record { answer = given kind count; lent = overwrite xs out }
  unfolding settle
  settle_gives h l = settle_one_gives refused why (given kind count) xs out h l

-- two lent slices
module _ {A : Type 0} (refusal : ℕ → A) (why : ℕ) (answer : A) (xs ys out ends : List ℕ) where
  pub settle_two_refuses : (why ≡ 0 → ⊥)
      → settle_two refusal why answer xs ys (out, ends) ≡ record { answer = refusal why; lent = (out, ends) }
  unfolding settle_two
  settle_two_refuses h = decide_refuses refusal why _ (out, ends) _ h

  pub settle_two_short : why ≡ 0 → length out < length xs
      → settle_two refusal why answer xs ys (out, ends) ≡ record { answer = refusal 7; lent = (out, ends) }
  unfolding settle_two
  settle_two_short h l = rw (lt-ltb (length out) (length xs) l) (decide_short refusal why _ (out, ends) h)

  pub settle_two_short_ends : why ≡ 0 → length xs ≤ length out → length ends < length ys
      → settle_two refusal why answer xs ys (out, ends) ≡ record { answer = refusal 7; lent = (out, ends) }
  unfolding settle_two
  settle_two_short_ends h k l =
      rw (le-ltb (length out) (length xs) k, lt-ltb (length ends) (length ys) l) (decide_short refusal why _ (out, ends) h)

  pub settle_two_gives : why ≡ 0 → length xs ≤ length out → length ys ≤ length ends
      → settle_two refusal why answer xs ys (out, ends)
      ≡ record { answer = answer; lent = (overwrite xs out, overwrite ys ends) }
  unfolding settle_two
  settle_two_gives h k l =
      rw (le-ltb (length out) (length xs) k, le-ltb (length ends) (length ys) l) (decide_gives refusal why _ (out, ends) h)

-- an operation that is lent two slices and writes to the first alone
module _ {A : Type 0} (refusal : ℕ → A) (why : ℕ) (answer : A) (xs out ends : List ℕ) where
  beside : (a b c : Bool) → c ≡ false →
      let gives : Outcome A (List ℕ) = record { answer = answer; lent = overwrite xs out } in
      let one : Outcome A (List ℕ) = cond a (cond b (record { answer = refusal 7; lent = out }) gives) (record { answer = refusal why; lent = out }) in
      ◌≡◌ {A = Outcome A (List ℕ × List ℕ)}
      (cond a
      (cond (b || c) (record { answer = refusal 7; lent = (out, ends) }) (record { answer = answer; lent = (overwrite xs out, ends) }))
      (record { answer = refusal why; lent = (out, ends) }))
      (record { answer = one.answer; lent = (one.lent, ends) })
  beside true true c e = refl
  beside true false c e = rw e
  beside false b c e = refl

  pub only_first : (r : A) (out' : List ℕ) → Permits (settle_one refusal why answer xs out) r out'
      → Permits (settle_two refusal why answer xs [] (out, ends)) r (out', ends)
  unfolding settle_one settle_two decide overwrite
  only_first r out' p =
      rw (beside (eqb why 0) (ltb (length out) (length xs)) (ltb (length ends) 0) (le-ltb (length ends) 0 zero-le))
      (record { answered = p.answered; left = ap (λ (o : List ℕ). (o, ends)) p.left })
