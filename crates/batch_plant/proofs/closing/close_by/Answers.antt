use Rattle.std.proofs.Common.{ap, ◌∙◌}
use Rattle.batch_desk.specs.Due.{events_of}
use Rattle.batch_plant.proofs.PlantPorts.{events_kept}
use Rattle.batch_plant.proofs.closing.close_by.Goals as goal

pub seal_port-requires : goal.seal_port-requires
seal_port-requires c = rw c.in-Ok.ensures.rings c.requires.inbox

pub returns-in-Ok-clause-work : goal.returns-in-Ok-clause-work
returns-in-Ok-clause-work c =
    let last = c.seal_port.ensures.work in
    let was = c.in-Ok.ensures.work in
    (last.0 ∙ was.0, last.1 ∙ was.1, last.2 ∙ was.2)

pub returns-in-Ok-clause-events : goal.returns-in-Ok-clause-events
returns-in-Ok-clause-events c = c.seal_port.ensures.events ∙ events_kept c.args.hub.now c.close.new.self c.in-Ok.ensures.rings

pub returns-in-Ok-clause-all : goal.returns-in-Ok-clause-all
returns-in-Ok-clause-all c = λ some. ap (events_of c.args.port) (c.seal_port.ensures.work.1 ∙ c.in-Ok.ensures.work.1) ∙ c.in-Ok.ensures.ok.all
