use Rattle.batch_program.proofs.AuditFindings.{finding_told}
use Rattle.batch_program.proofs.record_audit.print_audit.Goals as goal

pub returns-in-Ok : goal.returns-in-Ok
returns-in-Ok g c = finding_told _ _ _ _ _ _ _ c.in-Ok.finding c.in-Ok.ensures c.print_finding.ensures
