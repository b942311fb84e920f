-- `point::any_without` meets its contract: each id that is passed has a point.
use Rattle.std.proofs.Common.{◌≡◌, ◌∙◌, ◌+◌, ◌%◌, ◌<◌, ◌||◌, ℕ, List, suc, length, sym, ap, get_or, drop, nat_lt, lt-ltb, le-ltb, add-one, drop_of_length-le, drop-cons}
use Rattle.winding.specs.Inner.Scan.{any_without}
use Rattle.winding.proofs.point.any_without.Goals as goal

-- the search by the id at a place
step : (count : ℕ) (ids : List ℕ) (i : ℕ) → i < length ids
    → any_without count (drop i ids) ≡ (nat_lt count ((get_or ids i 0 + 1) % 18446744073709551616) || any_without count (drop (suc i) ids))
step count ids i h = ap (any_without count) (drop-cons ids i 0 h)

pub loop-id-preserved : goal.loop-id-preserved
loop-id-preserved c =
    rw add-one (sym (step c.args.count c.args.ids.now c.loop-id.id-index c.loop-id-test.true ∙ simp (le-ltb _ _ c.if-count-id.false))) ∙ c.loop-id.invariant

pub returns-then-count-id : goal.returns-then-count-id
returns-then-count-id c =
    sym (step c.args.count c.args.ids.now c.loop-id.id-index c.loop-id-test.true ∙ simp (lt-ltb _ _ c.if-count-id.true)) ∙ c.loop-id.invariant

pub returns : goal.returns
returns c = rw (drop_of_length-le c.args.ids.now c.loop-id-test.false) at c.loop-id.invariant
