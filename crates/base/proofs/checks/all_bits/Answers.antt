-- `checks::all_bits` meets its contract: joined bits are no fewer than those of each id, and a separator has the highest.
use borrow.Author.Rules.{rules}
use borrow.Author.Tests.{ne_eqb}
use mathlib.Core.Path.{◌≡◌, ◌∙◌}
use Prim.Native.Nat.{ℕ, ◌+◌, ◌<◌}
use native.Mathlib.Numerals.{add-one}
use native.Mathlib.Omega.{arith}
use mathlib.Core.List.{List}
use lib.Bits.{bit_or, or_add_and, and_le_l, and_le_r}
use lib.ListN.{length, get_or, drop, drop_of_length-le}
use lib.Seq.{drop-cons}
use Rattle.base.specs.Checks.{holds_separator}
use Rattle.base.specs.Kinds.{separator}
use Rattle.base.proofs.checks.all_bits.Invariants.{highest}
use Rattle.base.proofs.checks.all_bits.Goals as goal

both_low : (a b : ℕ) → bit_or a b < highest → (a < highest) × (b < highest)
both_low a b h = (omega (arith, h, or_add_and a b, and_le_r a b), omega (arith, h, or_add_and a b, and_le_l a b))

-- an id that is no separator may be left out
passed : (ids : List ℕ) (i : ℕ) → i < length ids → get_or ids i 0 < highest
    → holds_separator (drop i ids) ≡ holds_separator (drop (i + 1) ids)
unfolding holds_separator
passed ids i h low =
    let no = ne_eqb (get_or ids i 0) separator (λ e. omega (arith, e, low)) in
    rw (drop-cons ids i 0 h, no, add-one)

pub loop-id-preserved : goal.loop-id-preserved
loop-id-preserved c =
    let ids = c.args.ids.now in
    let h : c.loop-id.id-index < length ids = search rules in
    λ low. let b = both_low _ _ low in c.loop-id.invariant b.0 ∙ passed ids c.loop-id.id-index h b.1

pub returns : goal.returns
unfolding holds_separator
returns c = λ low. rw (drop_of_length-le c.args.ids.now c.loop-id-test.false) at (c.loop-id.invariant low)
