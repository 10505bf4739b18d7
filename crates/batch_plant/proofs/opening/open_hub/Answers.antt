use Rattle.std.proofs.Common.{ap}
use Rattle.batch_engine.specs.View.{EngineView}
use Rattle.batch_plant.proofs.PlantPorts.{parts_made, two_made}
use Rattle.batch_plant.proofs.opening.open_hub.Goals as goal

pub console_and_link-console-requires : goal.console_and_link-console-requires
console_and_link-console-requires c = two_made _ c.in-Ok.hub c.in-Ok.desks.items c.in-Ok.ensures.ports

pub returns-in-Ok-clause-cleared : goal.returns-in-Ok-clause-cleared
returns-in-Ok-clause-cleared c = ap (λ (v : EngineView). v.cleared) c.in-Ok.ensures.hub.0

pub returns-in-Ok-clause-history : goal.returns-in-Ok-clause-history
returns-in-Ok-clause-history c = c.in-Ok.ensures.hub.1

pub returns-in-Ok-clause-parts : goal.returns-in-Ok-clause-parts
returns-in-Ok-clause-parts c =
    let made = parts_made _ c.in-Ok.hub c.in-Ok.desks.items _ _ c.in-Ok.ensures.ports c.console_and_link-console.ensures in
    made.0

pub returns-in-Ok-clause-sent : goal.returns-in-Ok-clause-sent
returns-in-Ok-clause-sent c =
    let made = parts_made _ c.in-Ok.hub c.in-Ok.desks.items _ _ c.in-Ok.ensures.ports c.console_and_link-console.ensures in
    (made.1, made.2)
