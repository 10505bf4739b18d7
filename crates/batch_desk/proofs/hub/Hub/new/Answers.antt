use Rattle.batch_desk.proofs.PortEnds.{opened_hub}
use Rattle.batch_desk.proofs.hub.Hub.new.Goals as goal

pub invariant_of-hub : goal.invariant_of-hub
invariant_of-hub c = opened_hub _ _ _ _ c.requires c.new.ensures.items c.new-in-Ok.ensures.items c.in-Ok.ensures.made.ports_new
