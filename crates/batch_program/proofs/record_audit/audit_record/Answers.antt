use Rattle.batch_program.proofs.AuditFindings.{told_at}
use Rattle.batch_program.proofs.record_audit.audit_record.Goals as goal

pub returns-in-Ok : goal.returns-in-Ok
returns-in-Ok g c = told_at _ _ _ _ c.in-Ok.text.items _ _ _ (rw c.deref.ensures at c.in-Ok.ensures) (rw c.deref-in-Ok.ensures.value at c.print_audit.ensures)
