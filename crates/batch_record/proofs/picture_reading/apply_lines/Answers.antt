use Rattle.std.proofs.Common.{sym, subst, ◌∙◌, ◌+◌, List, ℕ}
use Rattle.std.proofs.lemmas.{Result.err_from_is_err_and, List.take_rest}
use Rattle.batch_record.proofs.Lines.{HasTaken, all-taken, line-refused, line-taken, nothing-taken}
use Rattle.batch_record.proofs.picture_reading.apply_lines.Goals as goal

pub loop-at-init : goal.loop-at-init
loop-at-init c = nothing-taken _

pub loop-at-preserved : goal.loop-at-preserved
loop-at-preserved c =
    let so_far = c.loop-at.invariant in
    let (next, after) = c.in_ok-apply_line.ensures so_far.stage in
    subst (λ (rest : List ℕ). HasTaken c.args.text.now rest c.saturating_add-number.result) (sym (take_rest c.loop-at.rest.now (c.in-Some.at + 1)))
    (line-taken _ _ _ _ c.in-Some.at so_far c.in-Some.ensures c.saturating_add-number.ensures next after)

pub returns-in_err-apply_line : goal.returns-in_err-apply_line
returns-in_err-apply_line c =
    let so_far = c.loop-at.invariant in
    let p = err_from_is_err_and c.from_residual.result c.from_residual.ensures.1 in
    rw (p.1) (λ number e. let (same, refused) = c.in_err-apply_line.ensures number (sym p.2 ∙ e) in
    rw same (line-refused _ _ _ _ c.in-Some.at so_far c.in-Some.ensures c.saturating_add-number.ensures (refused so_far.stage)))

pub returns : goal.returns
returns c =
    let so_far = c.loop-at.invariant in
    (so_far.stage, all-taken _ _ _ so_far c.in_default.ensures)
