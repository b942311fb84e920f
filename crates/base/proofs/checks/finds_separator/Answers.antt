-- `checks::finds_separator` meets its contract: what was found, or else what is left to read, decides.
use borrow.Author.Rules.{rules}
use mathlib.Core.Path.{sym, ◌∙◌}
use Prim.Native.Nat.{◌<◌}
use native.Mathlib.Numerals.{add-one}
use lib.ListN.{length, drop_of_length-le}
use lib.Seq.{drop-cons}
use Rattle.base.specs.Checks.{holds_separator}
use Rattle.base.proofs.Tests.{or_assoc, or-false}
use Rattle.base.proofs.checks.finds_separator.Goals as goal

pub loop-id-preserved : goal.loop-id-preserved
unfolding holds_separator
loop-id-preserved c =
    let ids = c.args.ids.now in
    let h : c.loop-id.id-index < length ids = search rules in
    rw (or_assoc, add-one) (rw (drop-cons ids c.loop-id.id-index 0 h) at c.loop-id.invariant)

pub returns : goal.returns
unfolding holds_separator
returns c = sym (or-false c.loop-id.found) ∙ (rw (drop_of_length-le c.args.ids.now c.loop-id-test.false) at c.loop-id.invariant)
