-- `text::Writer::put_simplexes` meets its contract: before turn i the lines of the first i simplexes are written.
use Rattle.std.proofs.Common.{◌≡◌, ◌+◌, ◌*◌, ◌-◌, ◌≤◌, length, take, drop, ap, ◌∙◌, arith, length-take}
use Rattle.base.specs.Kinds.{nodes_of}
use Rattle.records.specs.Text.{simplex_lines}
use Rattle.records.proofs.Places.{wrote_none, wrote_more}
use Rattle.records.proofs.Lines.{simplexes_more}
use Rattle.records.proofs.text.Writer.put_simplexes.Goals as goal

pub loop-i-init : goal.loop-i-init
unfolding simplex_lines
loop-i-init c = wrote_none c.args.self.now

pub loop-i-preserved : goal.loop-i-preserved
loop-i-preserved c =
    let a = c.args in
    let i = c.loop-i.i in
    let n = c.nodes_in-nodes.result in
    let nodes : n ≡ nodes_of a.kind = c.nodes_in-nodes.ensures in
    let part : i * n + n - i * n ≡ n = omega arith in
    let wrote = rw (part, nodes) at c.put_line.ensures in
    let simplex = take (nodes_of a.kind) (drop (i * nodes_of a.kind) a.ids.now) in
    let few : length simplex ≤ 4 = rw length-take (omega (arith, c.requires.kind_bound)) in
    rw (simplexes_more a.kind a.ids.now i)
    (wrote_more (simplex_lines a.kind a.ids.now i) _ (105 * i) (21 + 21 * length simplex) _ _ _ _ (omega arith) (omega arith) c.loop-i.invariant wrote)
