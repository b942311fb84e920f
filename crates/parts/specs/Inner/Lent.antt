-- What parts of `subentities` answer, and what the slices lent to them then hold.
use Rattle.std.specs.Prelude.{ℕ, List, None}
use Rattle.base.specs.Outcome.{Outcome, settle_one, settle_two}
use Rattle.base.specs.declared.kinds.Kind.{Kind}
use Rattle.parts.specs.declared.subentities.Parts.{Parts}
use Rattle.parts.specs.declared.subentities.Written.{Written}
use Rattle.parts.specs.Subentities.{Entities, entities, codim_refusal, refused_parts, given_parts}

-- an answer that nothing refuses but a lent slice that is too short
abbrev pub to_both : Entities → List ℕ × List ℕ → Outcome Parts (List ℕ × List ℕ)
to_both e lent = settle_two refused_parts 0 (given_parts e) e.ids e.ends lent

-- the same of entities without ends, which leave the second slice alone
abbrev pub to_first : Entities → List ℕ → Outcome Parts (List ℕ)
to_first e out = settle_one refused_parts 0 (given_parts e) e.ids out

-- the same of a kind, refused where it has no such codimension
abbrev pub by_kind : ℕ → ℕ → List ℕ → List ℕ → Outcome Parts (List ℕ)
by_kind kind codim ids out =
    let e = entities kind codim ids in
    settle_one refused_parts (codim_refusal kind codim) (given_parts e) e.ids out

-- sub-entities of one kind
abbrev pub alike_written : Kind → ℕ → Written
alike_written kind count = record { first = record { kind = kind; count = count }; second = None }
