-- `laid::wedge_tris` meets its contract: each entry is read from its place.
use mathlib.Core.Path.{refl}
use Rattle.base.specs.Gather.{pick}
use Rattle.recognise.proofs.Usual.{each}
use Rattle.recognise.proofs.laid.wedge_tris.Goals as goal

-- a record for each face, the last node of which was read there
pub returns : goal.returns
unfolding pick
returns c =
    each c.node.ensures
    (each c.node-2.ensures
    (each c.node-3.ensures
    (each c.node-4.ensures
    (each c.node-5.ensures
    (each c.node-6.ensures
    refl)))))
