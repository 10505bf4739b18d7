use Rattle.batch_program.proofs.AuditFindings.{audits_are_true}
use Rattle.batch_program.proofs.laws.audits_are_true.Goals as goal

pub returns : goal.returns
returns g c = audits_are_true _ _ _
