use Rattle.std.proofs.Common.{sym, ◌∙◌}
use Rattle.std.proofs.lemmas.Result.{err_from_is_err_and}
use Rattle.batch_record.proofs.picture_reading.draw_record.Goals as goal

pub returns-in_err-apply_lines-clause-refused : goal.returns-in_err-apply_lines-clause-refused
returns-in_err-apply_lines-clause-refused c =
    let p = err_from_is_err_and c.from_residual.result c.from_residual.ensures.1 in
    rw (p.1) (λ number e. c.in_err-apply_lines.ensures number (sym p.2 ∙ e))
