-- Laws of results: a refusal that comes first answers for the whole.
use mathlib.Core.Path.{◌≡◌, refl, sym, ap, ◌∙◌}
use mathlib.Core.Bool.{false}
use mathlib.Core.List.{List}
use Prim.Native.Nat.{ℕ}
use lib.Dec.{eqb}
use Rattle.std.specs.Prelude.{Result, Ok, Err}
use borrow.Author.Tests.{eqb-false}
use Rattle.base.specs.Inner.Numbers.{refusal_number}
use Rattle.base.specs.Outcome.{Permits, or_else, settle_one, settle_two}
use Rattle.base.specs.declared.refusals.Refusal.{Refusal}
use Rattle.base.specs.declared.refusals.Refusal.TheVariants.{
  UnknownKind,
  TooManyEntries,
  WrongNodeCount,
  StraySeparator,
  NoSuchCodimension,
  NoRule,
  ShortOutput,
  NoFace,
  NoSuchPoly,
  ThreeFaceLengths,
  NoWedgeFaces,
  NoQuadAtEdge,
  NotInSecondTriangle,
  OpenSurface,
  NoSuchSurface,
  NoOppositeFace,
  NoSideFace,
  NoPoint,
  WrongPoints,
  BadRecord,
}
use Rattle.base.proofs.Settle.{or_else_first, settle_one_refuses, settle_one_short, settle_one_gives, settle_two_refuses}
use Rattle.parts.specs.Inner.Room.{IfRoom}

-- no refusal has the number 0
numbered : (e : Refusal) → eqb (refusal_number e) 0 ≡ false
numbered UnknownKind = refl
numbered TooManyEntries = refl
numbered WrongNodeCount = refl
numbered StraySeparator = refl
numbered NoSuchCodimension = refl
numbered NoRule = refl
numbered ShortOutput = refl
numbered NoFace = refl
numbered NoSuchPoly = refl
numbered ThreeFaceLengths = refl
numbered NoWedgeFaces = refl
numbered NoQuadAtEdge = refl
numbered NotInSecondTriangle = refl
numbered OpenSurface = refl
numbered NoSuchSurface = refl
numbered NoOppositeFace = refl
numbered NoSideFace = refl
numbered NoPoint = refl
numbered WrongPoints = refl
numbered BadRecord = refl

some : (why : ℕ) (e : Refusal) → why ≡ refusal_number e → why ≡ 0 → ⊥
some why e h none = eqb-false (refusal_number e) 0 (numbered e) (sym h ∙ none)

-- the first of a chain
pub first_refuses : (why other : ℕ) (e : Refusal) → why ≡ refusal_number e → or_else why other ≡ refusal_number e
first_refuses why other e h = or_else_first why other (some why e h) ∙ h

pub one_refused : {A : Type 0} (refusal : ℕ → A) (why : ℕ) (answer : A) (xs out : List ℕ) (e : Refusal) → why ≡ refusal_number e
    → Permits (settle_one refusal why answer xs out) (refusal (refusal_number e)) out
one_refused refusal why answer xs out e h =
    rw (settle_one_refuses refusal why answer xs out (some why e h), h) (record { answered = refl; left = refl })

pub two_refused : {A : Type 0} (refusal : ℕ → A) (why : ℕ) (answer : A) (xs ys out ends : List ℕ) (e : Refusal)
    → why ≡ refusal_number e
    → Permits (settle_two refusal why answer xs ys (out, ends)) (refusal (refusal_number e)) (out, ends)
two_refused refusal why answer xs ys out ends e h =
    rw (settle_two_refuses refusal why answer xs ys out ends (some why e h), h) (record { answered = refl; left = refl })

-- a writer's result, under what it means
pub permitted : {T A : Type 0} (refusal : ℕ → A) (meaning : Result T Refusal → A) → meaning (Err ShortOutput) ≡ refusal 7
    → (given : T) (xs out : List ℕ) (r : Result T Refusal) (left : List ℕ) → IfRoom given xs out r left
    → Permits (settle_one refusal 0 (meaning (Ok given)) xs out) (meaning r) left
permitted refusal meaning short given xs out (Ok t) left h =
    rw (settle_one_gives refusal 0 (meaning (Ok given)) xs out refl h.1) (record { answered = ap (λ x. meaning (Ok x)) h.0; left = h.2 })
permitted refusal meaning short given xs out (Err e) left h =
    rw (settle_one_short refusal 0 (meaning (Ok given)) xs out refl h.1)
    (record { answered = ap (λ x. meaning (Err x)) h.0 ∙ short; left = h.2 })
