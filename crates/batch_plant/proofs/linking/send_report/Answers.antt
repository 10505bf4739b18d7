use Rattle.std.proofs.Common.{refl, ◌∙◌}
use Rattle.batch_plant.proofs.Deeds.{report_dropped, report_numbered, report_sent}
use Rattle.batch_plant.proofs.linking.send_report.Goals as goal

pub returns-in-Ok-Some-clause-sends : goal.returns-in-Ok-Some-clause-sends
returns-in-Ok-Some-clause-sends c =
    let sent = c.send_event.ensures in
    report_sent c.args.cell.now c.args.link.now _ c.args.desk.now _ c.args.answer c.in-Ok-Some.event c.requires.kept
    (rw c.in-Ok-Some.field-0-is at c.in-Ok-Some.ensures.event ∙ report_numbered c.args.cell.now _ c.args.answer.unit c.args.answer.phase c.args.answer.word _ _ refl c.name_of.ensures c.phase_name-phase.ensures)
    sent.left sent.next sent.events sent.outs sent.taken sent.sent

pub returns-in-Ok-None-clause-sends : goal.returns-in-Ok-None-clause-sends
returns-in-Ok-None-clause-sends c =
    report_dropped c.args.cell.now c.args.link.now _ c.args.desk.now c.args.answer c.requires.kept
    (rw c.in-Ok-None.field-0-is at c.in-Ok-None.ensures.event ∙ report_numbered c.args.cell.now _ c.args.answer.unit c.args.answer.phase c.args.answer.word _ _ refl c.name_of.ensures c.phase_name-phase.ensures)
    refl refl refl
