use Rattle.std.proofs.Common.{subst}
use Rattle.batch_verdicts.specs.{Judging.HaltsWith, VerdictTexts.refusal_text}
use Rattle.batch_verdicts.proofs.judging.set_halt.Goals as goal

pub returns : goal.returns
returns c =
    let rejected = c.args.rejected.now in
    let text = refusal_text rejected.cell rejected.recipes.items c.args.certificate.now.ranks.items rejected.fault in
    subst (λ kind. HaltsWith text kind c.refused.result) c.set_kind-kind.ensures (c.refused.ensures text (rw c.deref.ensures.value at c.refusal_text-text.ensures))
