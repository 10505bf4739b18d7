use Rattle.std.proofs.Common.{ap, refl, ◌∙◌}
use Rattle.batch_desk.specs.Due.{events_of}
use Rattle.batch_plant.proofs.running.close.Goals as goal

pub returns-clause-work : goal.returns-clause-work
returns-clause-work c =
    let last = c.close_port-link.ensures.work in
    let was = c.close_port-console.ensures.work in
    (last.0 ∙ was.0, last.1 ∙ was.1, last.2 ∙ was.2)

pub returns-clause-rings : goal.returns-clause-rings
returns-clause-rings c = c.close_port-link.ensures.events ∙ c.close_port-console.ensures.events

pub returns-clause-console : goal.returns-clause-console
returns-clause-console c =
    ap (events_of 0) c.close_port-link.ensures.work.1 ∙ c.close_port-console.ensures.all (rw c.in_ok-rests.ensures.console refl)

pub returns-clause-link : goal.returns-clause-link
returns-clause-link c = c.close_port-link.ensures.all (rw c.in_ok-rests.ensures.link refl)
