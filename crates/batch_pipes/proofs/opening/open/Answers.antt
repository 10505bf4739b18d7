use Rattle.std.proofs.Common.{ap, subst, ◌∙◌}
use Rattle.batch_engine.specs.View.{EngineView}
use Rattle.batch_pipes.{specs.Opened.IsOpened, proofs.WriterOutputs.outputs_none, proofs.DeskRings.opened_none}
use Rattle.batch_pipes.proofs.opening.open.Goals as goal

pub open_each-requires-clause-opened : goal.open_each-requires-clause-opened
open_each-requires-clause-opened g c κs within =
    opened_none c.new-server.result c.new-ports.result (ap (λ v. v.items) c.new-server.ensures.desks ∙ c.new-2.ensures.items) (ap (λ v. v.items) c.new-server.ensures.names ∙ c.new.ensures.items)
    c.new-server.ensures.last c.new-server.ensures.group

pub open_each-requires-clause-outputs : goal.open_each-requires-clause-outputs
open_each-requires-clause-outputs g c κs within =
    outputs_none _ c.args.fronts.now c.new-outputs.result.items c.new-ports.result.writers.items c.new-outputs.ensures.items c.new-ports.ensures.writers

pub returns-clause-opened : goal.returns-clause-opened
returns-clause-opened g c =
    subst (λ (e : EngineView). IsOpened e c.args.desks.desks.items c.open_each.new.server c.open_each.new.ports) c.new-server.ensures.engine c.in_ok-open_each.ensures.opened
