-- `run` meets its contract: what is passed and what is left add up to the whole span.
use Rattle.std.proofs.Common.{arith, true, false}
use Rattle.faces.proofs.Walk.{span_step, span_end}
use Rattle.faces.proofs.run.Goals as goal

pub loop-i-preserved : goal.loop-i-preserved
loop-i-preserved c =
    let a = c.args in
    omega (arith, c.loop-i.invariant, span_step a.separators a.ids.now c.loop-i.i false c.loop-i-test.true c.if-id-separators.false)

pub returns-then-id-separators : goal.returns-then-id-separators
returns-then-id-separators c =
    let a = c.args in
    omega (arith, c.loop-i.invariant, span_step a.separators a.ids.now c.loop-i.i true c.loop-i-test.true c.if-id-separators.true)

pub returns : goal.returns
returns c =
    let a = c.args in
    omega (arith, c.loop-i.invariant, span_end a.separators a.ids.now c.loop-i.i c.loop-i-test.false)
