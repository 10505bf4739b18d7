use Rattle.batch_program.proofs.AuditFindings.{read_all}
use Rattle.batch_program.proofs.record_drawing.record_of.Goals as goal

pub returns : goal.returns
returns g c = read_all _ _ _ c.new-bytes.ensures.items c.in_ok-read_to_end.ensures.bytes
