use Rattle.std.proofs.Common.{◌∙◌}
use Rattle.batch_plant.proofs.PlantPorts.{token_fits, inbox_fits}
use Rattle.batch_plant.proofs.closing.close_port.Goals as goal

pub close_by-requires-clause-token : goal.close_by-requires-clause-token
close_by-requires-clause-token c =
    let told = rw c.in-Some.is at c.finish-token.ensures.token in
    token_fits c.args.hub.now c.args.port c.args.desk _ c.requires told.1

pub close_by-requires-clause-inbox : goal.close_by-requires-clause-inbox
close_by-requires-clause-inbox c = inbox_fits c.args.hub.now c.args.port c.args.desk _ c.requires c.finish-token.ensures.inbox.0

pub returns-in-Some-clause-all : goal.returns-in-Some-clause-all
returns-in-Some-clause-all c =
    let told = rw c.in-Some.is at c.finish-token.ensures.token in
    λ some. c.close_by.ensures.all some ∙ told.0
