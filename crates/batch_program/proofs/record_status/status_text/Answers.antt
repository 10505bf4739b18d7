use Rattle.std.proofs.Common.{sym, ◌∙◌}
use Rattle.std.proofs.lemmas.Result.{err_from_is_err_and}
use Rattle.batch_program.proofs.RecordStatus.{text_of_input}
use Rattle.batch_program.proofs.record_status.status_text.Goals as goal

pub returns-in-Ok-clause-told : goal.returns-in-Ok-clause-told
returns-in-Ok-clause-told g c =
    text_of_input _ c.in_ok-read_status.field-0 c.in-Ok.text.items c.in-Ok.ensures c.in_ok-read_status.ensures.told

pub returns-in_err-read_status-clause-refused : goal.returns-in_err-read_status-clause-refused
returns-in_err-read_status-clause-refused g c =
    let p = err_from_is_err_and c.from_residual.result c.from_residual.ensures.1 in
    rw (p.1) (λ number e. c.in_err-read_status.ensures.refused number (sym p.2 ∙ e))
