-- What a result permits: a refusal, an output that is too short, and what is given.
use mathlib.Core.Path.{◌≡◌, refl, sym, ◌∙◌, ap, ap₂}
use mathlib.Core.List.{List}
use Prim.Native.Nat.{ℕ, ◌<◌, ◌≤◌}
use borrow.Author.Rules.{rules}
use lib.ListN.{length}
use Rattle.std.specs.Prelude.{Ok, Err}
use Rattle.base.specs.Inner.Numbers.{answer_of, number_of, refusal_number}
use Rattle.base.specs.Outcome.{Permits, given, refused, settle, overwrite}
use Rattle.base.specs.declared.refusals.Given.{Given}
use Rattle.base.specs.declared.refusals.Refusal.{Refusal}
use Rattle.base.specs.declared.refusals.Refusal.TheVariants.{ShortOutput}
use Rattle.base.proofs.Settle.{settle_refuses, settle_short, settle_gives}

-- no refusal has the number 0
pub numbered : (refusal : Refusal) → refusal_number refusal ≡ 0 → ⊥
numbered refusal h = search rules

module _ (why kind count : ℕ) (xs out : List ℕ) where
  pub refuses_as : (refusal : Refusal) → why ≡ refusal_number refusal → Permits (settle why kind count xs out) (answer_of (Err refusal)) out
  refuses_as refusal e =
      rw (settle_refuses why kind count xs out (λ h. numbered refusal (sym e ∙ h))) (record { answered = ap refused (sym e); left = refl })

  pub short_as : why ≡ 0 → length out < length xs → Permits (settle why kind count xs out) (answer_of (Err ShortOutput)) out
  short_as h l = rw (settle_short why kind count xs out h l) (record { answered = refl; left = refl })

  pub gives_as : (g : Given) (lent : List ℕ) → why ≡ 0 → length xs ≤ length out → number_of g.kind ≡ kind → g.count ≡ count
      → lent ≡ overwrite xs out → Permits (settle why kind count xs out) (answer_of (Ok g)) lent
  gives_as g lent h l k n e =
      rw (settle_gives why kind count xs out h l) (record { answered = ap₂ given k n; left = e })
