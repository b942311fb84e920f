-- `numbers::closes` meets its contract: what the steps leave is what the law of numbered nodes asks for.
use mathlib.Core.Path.{◌∙◌}
use native.Mathlib.Omega.{arith}
use Rattle.surfaces.proofs.Numbering.{edges_twice, numbers_close}
use Rattle.surfaces.proofs.numbers.closes.Goals as goal

pub returns : goal.returns
returns g c =
    c.all_twice.ensures
    ∙ edges_twice c.number_nodes.result c.args.next.now c.number_edges-edges.result c.number_edges-edges.ensures.0 (omega arith) (omega arith)
    ∙ numbers_close c.args.nodes.now c.args.next.now c.number_nodes.result (omega arith) (omega arith) c.requires.within c.number_nodes.ensures.0
