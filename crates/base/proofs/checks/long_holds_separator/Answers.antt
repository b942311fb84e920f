-- `checks::long_holds_separator` meets its contract: what is left decides, since no separator stands before it.
use Rattle.std.proofs.Common.{◌≡◌, List, ℕ, [], ◌∷◌, ◌++◌, ◌||◌, false, refl, sym, ap, ◌∙◌, arith, take, drop}
use Rattle.std.proofs.lemmas.List.{take-append-drop}
use lib.Dec.{eqb}
use Rattle.base.specs.Checks.{holds_separator}
use Rattle.base.specs.Kinds.{separator}
use Rattle.base.proofs.Tests.{or_assoc}
use Rattle.base.proofs.checks.long_holds_separator.Goals as goal

-- a separator stands in one list behind another where it stands in either
in_either : (part behind : List ℕ) → holds_separator (part ++ behind) ≡ (holds_separator part || holds_separator behind)
unfolding holds_separator
in_either [] behind = refl
in_either (x ∷ part) behind = rw (in_either part behind) (sym (or_assoc (eqb x separator) (holds_separator part) (holds_separator behind)))

-- what has none may be left out
passed : (part behind ids : List ℕ) (n : ℕ) → part ≡ take n ids → behind ≡ drop n ids → holds_separator part ≡ false
    → holds_separator behind ≡ holds_separator ids
passed part behind ids n p b none =
    sym (sym (ap holds_separator (take-append-drop n ids)) ∙ in_either (take n ids) (drop n ids)
    ∙ rw (sym p, none, sym b) refl)

pub loop-part-smaller : goal.loop-part-smaller
loop-part-smaller c = omega (arith, c.in-Some.ensures.cases.2)

pub loop-part-preserved : goal.loop-part-preserved
loop-part-preserved c =
    let cut = c.in-Some.ensures.cases in
    passed c.in-Some.part.now c.in-Some.behind.now c.loop-part.rest.now 64 cut.0 cut.1 (c.all_bits.ensures c.if-all_bits-ge-HIGHEST_BIT.false)
    ∙ c.loop-part.invariant
