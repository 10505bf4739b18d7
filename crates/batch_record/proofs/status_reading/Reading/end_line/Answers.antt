use Rattle.std.proofs.Common.{◌≡◌, ◌++◌, sym, ap, ◌∙◌}
use Rattle.std.proofs.lemmas.Result.{err_from_is_err_and}
use Rattle.batch_record.{specs.Blocks.stage_after, proofs.InputProgress.line-refused, proofs.InputProgress.line-taken}
use Rattle.batch_record.proofs.status_reading.Reading.end_line.Goals as goal

pub returns : goal.returns
returns c = λ read h none.
    let line : c.as_slice.result.now ≡ c.args.self.now.line.items ++ c.args.end.now = c.as_slice.ensures.value ∙ c.in_ok-put.ensures in
    let taken = c.in_ok-apply_line.ensures h.stage h.is_at in
    line-taken c.args.self.now _ read c.args.end.now h none c.clear.ensures.items taken.0 (ap (stage_after h.stage) (sym line) ∙ taken.1) taken.2 c.saturating_add-self.ensures

pub returns-in_err-apply_line : goal.returns-in_err-apply_line
returns-in_err-apply_line c = λ read h none.
    let p = err_from_is_err_and c.from_residual-in_err-apply_line.result c.from_residual-in_err-apply_line.ensures.1 in
    let line : c.as_slice.result.now ≡ c.args.self.now.line.items ++ c.args.end.now = c.as_slice.ensures.value ∙ c.in_ok-put.ensures in
    rw (p.1) (λ number e rest. let (same, refused) = c.in_err-apply_line.ensures h.stage h.is_at number (sym p.2 ∙ e) in
    line-refused c.args.self.now read c.args.end.now h none (ap (stage_after h.stage) (sym line) ∙ refused) number (same ∙ c.saturating_add-self.ensures) rest)
