use Rattle.batch_desk.specs.{Consoles.IsConsole, DeskState.DeskState, HubState.HubState}
use Rattle.batch_plant.{specs.Parts.HubRan, specs.Parts.LinkRan, proofs.Joins.came_back, proofs.Joins.gave_back}
use Rattle.batch_plant.proofs.running.run_three.Goals as goal

pub returns-clause-hub : goal.returns-clause-hub
returns-clause-hub g c =
    came_back (λ (h : HubState). HubRan c.args.task.batches c.args.parts.hub h) c.run_hub-hub.result c.in_ok-hub.hub c.run_hub-hub.ensures.ran c.in_ok-hub.ensures.hub

pub returns-clause-console : goal.returns-clause-console
returns-clause-console g c =
    gave_back (λ (d : DeskState). IsConsole c.args.task.plan c.args.task.batches c.args.parts.console d) c.start_console-first.result
    c.join_console-console.result c.in_ok-hub.console c.start_console-first.ensures c.join_console-console.ensures.ran c.in_ok-hub.ensures.console
    (λ child desk ran began. rw (began.0, began.1) at ran)

pub returns-clause-link : goal.returns-clause-link
returns-clause-link g c =
    gave_back (λ (d : DeskState). LinkRan g.D.UnitDriver.command_gives g.D.UnitDriver.tick_gives c.args.cell c.args.units c.args.parts.link d) c.start_link-second.result c.join_link-link.result c.in_ok-hub.link c.start_link-second.ensures
    c.join_link-link.ensures.ran c.in_ok-hub.ensures.link (λ child desk ran began. rw (began.0, began.1, began.2) at ran)
