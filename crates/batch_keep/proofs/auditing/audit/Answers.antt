use Rattle.std.proofs.lemmas.Result.{IfOk-weaker}
use Rattle.batch_keep.proofs.AuditSteps.{finds_of_input}
use Rattle.batch_keep.proofs.auditing.audit.Goals as goal

pub returns : goal.returns
returns g c =
    IfOk-weaker c.audit_lines.result _ _
    (λ finding found. finds_of_input c.args.cleared (g.R.Read.remaining c.args.sent.now) c.deref.result.now c.args.text.now finding
    (rw c.deref.ensures.value (rw c.new-input.ensures.items at c.in_ok-read_to_end.ensures.bytes)) found)
    c.audit_lines.ensures
