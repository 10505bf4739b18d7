use Rattle.std.proofs.Common.{ap, subst, ◌∙◌}
use Rattle.batch_cell.specs.declared.cell.Cell.{Cell}
use Rattle.batch_engine.specs.View.{EngineView}
use Rattle.batch_plant.{specs.Plants.HasLink, proofs.PlantPorts.comes, proofs.PlantPorts.from_two, proofs.PlantPorts.linked_at_end, proofs.PlantPorts.parts_stay, proofs.PlantPorts.rings_at_end, proofs.PlantPorts.still_complete}
use Rattle.batch_plant.proofs.running.plant_run.Goals as goal

pub close-requires : goal.close-requires
close-requires g c =
    let parts = c.in_ok-parts.parts in
    let ran = c.in_ok-ran.ran in
    let is = c.in_ok-ran.ensures in
    parts_stay parts.hub ran.hub parts.console ran.console parts.link ran.link is.hub.rings is.console.events is.console.outs is.link.events is.link.outs
    c.in_ok-parts.ensures.parts

pub returns-clause-set : goal.returns-clause-set
returns-clause-set g c = ap (λ (v : EngineView). v.cleared) c.in_ok-hub.ensures.work.0 ∙ c.in_ok-ran.ensures.hub.cleared ∙ c.in_ok-parts.ensures.cleared

pub returns-clause-complete : goal.returns-clause-complete
returns-clause-complete g c =
    still_complete c.args.task.batches c.in_ok-ran.ran.hub c.in_ok-hub.hub c.in_ok-hub.ensures.work.0 c.in_ok-ran.ensures.hub.complete

pub returns-clause-rings : goal.returns-clause-rings
returns-clause-rings g c =
    rings_at_end c.args.task.ring c.in_ok-parts.parts.hub c.in_ok-ran.ran.hub c.in_ok-hub.hub c.in_ok-parts.ensures.rings c.in_ok-ran.ensures.hub.rings c.in_ok-hub.ensures.rings

pub returns-clause-link : goal.returns-clause-link
returns-clause-link g c =
    let parts = c.in_ok-parts.parts in
    let ran = c.in_ok-ran.ran in
    let is = c.in_ok-ran.ensures in
    let stays =
    parts_stay parts.hub ran.hub parts.console ran.console parts.link ran.link is.hub.rings is.console.events is.console.outs is.link.events is.link.outs
    c.in_ok-parts.ensures.parts in
    subst (λ (cell : Cell). HasLink g.D.UnitDriver.command_gives g.D.UnitDriver.tick_gives cell c.args.units c.in_ok-hub.hub)
    (c.in-Ok-of.ensures ∙ c.cell.ensures.value)
    (linked_at_end g.D.UnitDriver.command_gives g.D.UnitDriver.tick_gives c.in-Ok-of.cell c.args.units c.in_ok-ran.ran.hub c.in_ok-hub.hub
    c.in_ok-parts.parts.link c.in_ok-ran.ran.link c.in_ok-parts.ensures.sent.1 stays.of_link c.in_ok-hub.ensures.rings is.link c.in_ok-hub.ensures.link)

pub returns-clause-desks : goal.returns-clause-desks
returns-clause-desks g c =
    let parts = c.in_ok-parts.parts in
    let ran = c.in_ok-ran.ran in
    let is = c.in_ok-ran.ensures in
    let new = c.in_ok-parts.ensures.sent in
    comes g.D.UnitDriver.command_gives g.D.UnitDriver.tick_gives c.in-Ok-of.cell c.args.units c.args.task.plan c.args.task.batches c.in_ok-hub.hub parts.console ran.console parts.link ran.link
    (from_two c.args.task.ring parts.hub ran.hub c.in_ok-hub.hub c.in_ok-parts.ensures.rings c.in_ok-parts.ensures.history is.hub.history c.in_ok-hub.ensures.work.1) new.0 new.1
    is.console is.link c.in_ok-hub.ensures.console c.in_ok-hub.ensures.link
