-- `laid::brick_quads` meets its contract: each entry is read from its place.
use mathlib.Core.Path.{refl}
use Rattle.base.specs.Gather.{pick}
use Rattle.recognise.proofs.Usual.{each}
use Rattle.recognise.proofs.laid.brick_quads.Goals as goal

-- a record for each face, the last node of which was read there
pub returns : goal.returns
unfolding pick
returns c =
    each c.node.ensures
    (each c.node-2.ensures
    (each c.node-3.ensures
    (each c.node-4.ensures
    (each c.node-5.ensures
    (each c.node-6.ensures
    (each c.node-7.ensures
    (each c.node-8.ensures
    (each c.node-9.ensures
    (each c.node-10.ensures
    (each c.node-11.ensures
    (each c.node-12.ensures
    (each c.node-13.ensures
    (each c.node-14.ensures
    (each c.node-15.ensures
    (each c.node-16.ensures
    (each c.node-17.ensures
    (each c.node-18.ensures
    (each c.node-19.ensures
    (each c.node-20.ensures
    (each c.node-21.ensures
    (each c.node-22.ensures
    (each c.node-23.ensures
    (each c.node-24.ensures
    refl)))))))))))))))))))))))
