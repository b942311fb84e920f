-- `record::long_refusal` meets its contract: each return knows how the tests above it went.
use Rattle.std.proofs.Common.{◌≡◌, ℕ, ◌/◌, ◌≤◌, ◌<◌, true, false, Bool, not, List, cond, sym, ◌∙◌, rules, arith, ap, length}
use Rattle.base.specs.Checks.{strays}
use Rattle.base.specs.Kinds.{nodes_of}
use Rattle.base.specs.Inner.Numbers.{number_of, some_unless_zero}
use Rattle.std.specs.Option.{is_some}
use Rattle.std.specs.Prelude.{Option}
use Rattle.base.specs.declared.kinds.Kind.{Kind}
use Rattle.cuts.specs.Split.{split_refusal}
use Rattle.records.specs.Wire.{ids_in}
use Rattle.records.proofs.Bytes.{length_ids}
use Rattle.tallyspool.proofs.Long.{long_known, some_is}
use Rattle.tallyspool.proofs.record.long_refusal.Goals as goal

-- the ids that the bytes hold: more than any fixed kind has, and an element's at most
abbrev ids : List ℕ → List ℕ
ids bytes = ids_in (length bytes / 8) bytes

module _ (bytes : List ℕ) (kind : ℕ) (many : 21 < length bytes / 8) (few : length bytes ≤ 32768) where
  more : 21 < length (ids bytes)
  more = rw length_ids many

  most : length (ids bytes) ≤ 4096
  most = rw length_ids (omega arith)

  -- what is left of a kind's refusals once it is told whether it fixes its node count
  known : (of : Kind) → number_of of ≡ kind → (nodes : Option ℕ) → nodes ≡ some_unless_zero (nodes_of (number_of of))
      → (told b : Bool) → told ≡ is_some nodes → told ≡ b
      → cond (not b) (cond (strays kind (ids bytes)) 4 6) 3 ≡ split_refusal kind (ids bytes)
  known of e nodes n told b i j =
      let h : is_some (some_unless_zero (nodes_of kind)) ≡ b =
      ap (λ (m : ℕ). is_some (some_unless_zero (nodes_of m))) (sym e) ∙ ap (λ (o : Option ℕ). is_some o) (sym n) ∙ sym i ∙ j in
      sym (rw (some_is (nodes_of kind) b h) at (long_known kind (ids bytes) more most of e))

pub returns-then-is_some : goal.returns-then-is_some
returns-then-is_some c =
    let a = c.args in
    known a.bytes.now a.kind c.requires.0 c.requires.1 c.in-Ok.kind c.in-Ok.ensures _ c.nodes.ensures _ true c.is_some.ensures c.if-is_some.true

pub returns-then-holds_separator : goal.returns-then-holds_separator
unfolding strays
returns-then-holds_separator c =
    let a = c.args in
    let stray : strays a.kind (ids a.bytes.now) ≡ true = search rules in
    rw stray at (known a.bytes.now a.kind c.requires.0 c.requires.1 c.in-Ok.kind c.in-Ok.ensures _ c.nodes.ensures _ false c.is_some.ensures c.if-is_some.false)

pub returns : goal.returns
unfolding strays
returns c =
    let a = c.args in
    let clean : strays a.kind (ids a.bytes.now) ≡ false = search rules in
    rw clean at (known a.bytes.now a.kind c.requires.0 c.requires.1 c.in-Ok.kind c.in-Ok.ensures _ c.nodes.ensures _ false c.is_some.ensures c.if-is_some.false)
