-- What an operation answers and what the slices lent to it then hold: the one form of every contract.
use Rattle.std.specs.Prelude.{ℕ, ◌≡◌, Bool, cond, ◌||◌, List, ◌++◌, eqb, ltb, length, drop}
use Rattle.base.specs.declared.refusals.Answer.{Answer}

-- xs over the front of out; what lies behind stays
unfoldable pub overwrite : List ℕ → List ℕ → List ℕ
overwrite xs out = xs ++ drop (length xs) out

-- an answer, beside what is lent and then holds
pub record Outcome (A L : Type 0) : Type 0 where
  pub answer : A
  pub lent : L

-- an operation may answer this and leave that in what it was lent: exactly the outcome
pub record Permits {A L : Type 0} (o : Outcome A L) (answer : A) (lent : L) : Type 0 where
  pub answered : answer ≡ o.answer
  pub left : lent ≡ o.lent

-- the refusal `why` if it is not 0, else 7 if what is lent is too short, else what is given; a refusal leaves
-- what is lent as it was
unfoldable pub decide : {A L : Type 0} → (ℕ → A) → ℕ → Bool → Outcome A L → L → Outcome A L
decide refusal why short gives lent =
    cond (eqb why 0)
    (cond short (record { answer = refusal 7; lent = lent }) gives)
    (record { answer = refusal why; lent = lent })

-- the first of two refusals that is not 0
abbrev pub or_else : ℕ → ℕ → ℕ
or_else why other = cond (eqb why 0) other why

-- one lent slice, over whose front xs is written
unfoldable pub settle_one : {A : Type 0} → (ℕ → A) → ℕ → A → List ℕ → List ℕ → Outcome A (List ℕ)
settle_one refusal why answer xs out =
    decide refusal why (ltb (length out) (length xs)) (record { answer = answer; lent = overwrite xs out }) out

-- two lent slices, over whose fronts xs and ys are written, or neither
unfoldable pub settle_two : {A : Type 0} → (ℕ → A) → ℕ → A → List ℕ → List ℕ → List ℕ × List ℕ → Outcome A (List ℕ × List ℕ)
settle_two refusal why answer xs ys lent =
    decide refusal why
    (ltb (length lent.0) (length xs) || ltb (length lent.1) (length ys))
    (record { answer = answer; lent = (overwrite xs lent.0, overwrite ys lent.1) })
    lent

-- a refusal has kind 0 and count 0
abbrev pub refused : ℕ → Answer
refused why = record { refusal = why; kind = 0; count = 0 }

abbrev pub given : ℕ → ℕ → Answer
given kind count = record { refusal = 0; kind = kind; count = count }

-- one lent slice, and the answer of most operations
unfoldable pub settle : ℕ → ℕ → ℕ → List ℕ → List ℕ → Outcome Answer (List ℕ)
settle why kind count xs out = settle_one refused why (given kind count) xs out
