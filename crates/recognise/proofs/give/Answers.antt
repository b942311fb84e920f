-- `give` meets its contract: each return knows whether the nodes fit.
use mathlib.Core.Path.{refl}
use Rattle.base.proofs.Settle.{settle_short, settle_gives}
use Rattle.recognise.proofs.give.Goals as goal

pub returns-then-out-nodes : goal.returns-then-out-nodes
returns-then-out-nodes c =
    rw (settle_short _ _ _ _ _ refl c.if-out-nodes.true) (record { answered = refl; left = refl })

pub returns : goal.returns
returns c = rw (settle_gives _ _ _ _ _ refl c.if-out-nodes.false) (record { answered = refl; left = c.copy.ensures })
