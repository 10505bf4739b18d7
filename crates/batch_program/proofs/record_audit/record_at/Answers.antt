use Rattle.batch_program.proofs.AuditFindings.{read_all}
use Rattle.batch_program.proofs.record_audit.record_at.Goals as goal

pub returns : goal.returns
returns g c = (_, c.in_ok-opened.ensures, read_all _ _ _ c.new-text.ensures.items c.in_ok-read_to_end.ensures.bytes)
