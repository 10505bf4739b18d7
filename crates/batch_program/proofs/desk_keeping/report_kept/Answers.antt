use Rattle.std.proofs.Common.{inr}
use Rattle.batch_program.proofs.DeskService.{desks_ends, desks_well, not_well}
use Rattle.batch_program.proofs.desk_keeping.report_kept.Goals as goal

pub returns-in_default-clause-well : goal.returns-in_default-clause-well
returns-in_default-clause-well g c = desks_well c.args.ended c.report_ended.result c.report_ended.ensures

pub returns-in_default-clause-ends : goal.returns-in_default-clause-ends
returns-in_default-clause-ends g c = desks_ends c.args.ended c.report_ended.result c.report_ended.ensures

pub returns-in-Err-Journal-clause-well : goal.returns-in-Err-Journal-clause-well
returns-in-Err-Journal-clause-well g c = λ well. absurd (not_well c.complain_disk.result c.complain_disk.ensures well)

pub returns-in-Err-Journal-clause-ends : goal.returns-in-Err-Journal-clause-ends
returns-in-Err-Journal-clause-ends g c = inr c.complain_disk.ensures
