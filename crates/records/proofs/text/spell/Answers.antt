-- `text::spell` meets its contract: the digits left to spell, put before those that are written, give the whole.
use Rattle.std.proofs.Common.{◌≡◌, ◌≤◌, ◌-◌, suc, arith, length, ◌∙◌, append-nil}
use lib.ListN.{drop_of_length-le}
use Rattle.records.specs.Text.{spelled}
use Rattle.records.proofs.Decimals.{spell_turn}
use Rattle.records.proofs.text.spell.Goals as goal

pub loop-i-init : goal.loop-i-init
loop-i-init c =
    let b = c.args.bytes.now in
    let all : length b ≤ length b = omega arith in
    rw (drop_of_length-le b all, append-nil)

pub loop-i-preserved : goal.loop-i-preserved
loop-i-preserved c =
    let i = c.loop-i.i in
    let e : i ≡ suc (i - 1) = omega arith in
    spell_turn (i - 1) c.loop-i.rest c.loop-i.bytes (omega arith) ∙ (rw e at c.loop-i.invariant)

pub returns : goal.returns
unfolding spelled
returns c =
    let e : c.loop-i.i ≡ 0 = omega arith in
    rw e at c.loop-i.invariant
