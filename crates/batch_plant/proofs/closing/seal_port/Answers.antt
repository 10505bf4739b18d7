use Rattle.batch_plant.proofs.PlantPorts.{events_sealed, next_sealed, rest_fits, rest_left}
use Rattle.batch_plant.proofs.closing.seal_port.Goals as goal

pub rest-requires : goal.rest-requires
rest-requires c =
    let told = rw c.in-Ok-Some.field-0-is at c.in-Ok-Some.ensures.ok in
    rest_fits c.args.port c.args.hub.now _ c.in-Ok-Some.token _ told c.requires

pub returns-in-Ok-Some-clause-next : goal.returns-in-Ok-Some-clause-next
returns-in-Ok-Some-clause-next c = next_sealed c.args.port _ _ _ c.in-Ok-Some.ensures.ok

pub returns-in-Ok-Some-clause-events : goal.returns-in-Ok-Some-clause-events
returns-in-Ok-Some-clause-events c = events_sealed c.args.port _ _ _ c.in-Ok-Some.ensures.ok

pub returns-in-Ok-Some-clause-rest : goal.returns-in-Ok-Some-clause-rest
returns-in-Ok-Some-clause-rest c =
    let told = rw c.in-Ok-Some.field-0-is at c.in-Ok-Some.ensures.ok in
    rest_left c.args.port c.args.hub.now _ c.in-Ok-Some.token c.args.inbox.taken _ c.rest.result told (rw c.rest.ensures.same.1 at c.rest.ensures.all) c.rest.ensures.count

pub returns-in-Ok-None-clause-events : goal.returns-in-Ok-None-clause-events
returns-in-Ok-None-clause-events c = events_sealed c.args.port _ _ _ c.in-Ok-None.ensures.ok

pub returns-in-Ok-None-clause-next : goal.returns-in-Ok-None-clause-next
returns-in-Ok-None-clause-next c = next_sealed c.args.port _ _ _ c.in-Ok-None.ensures.ok
