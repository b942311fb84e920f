-- `tet::fourth` meets its contract: the nodes passed are of the first triangle, so what is left decides.
use mathlib.Core.Path.{◌≡◌}
use lib.ListN.{drop}
use Rattle.shapes.specs.Tet.{fourth}
use Rattle.shapes.proofs.tet.fourth.Given as goal

abbrev pub invariant-loop-x : goal.invariant-loop-x
invariant-loop-x l = fourth l.a l.b l.c (drop l.x-index l.nodes) ≡ fourth l.a l.b l.c l.nodes
