use Rattle.std.proofs.Common.{subst}
use Rattle.batch_verdicts.specs.{Halting.HaltsAtCell, declared.refusal.Halt.Halt}
use Rattle.batch_verdicts.proofs.every.cell_or_refusal.Goals as goal

pub returns-in-Err-Refused-clause-looked : goal.returns-in-Err-Refused-clause-looked
returns-in-Err-Refused-clause-looked g c =
    let At : Halt → Type 0 = HaltsAtCell (g.D.Documents.gives c.args.documents.now) c.args.path.now in (
      c.in-Err-Refused.refusal,
      subst At c.in-Err-Refused.field-0-is c.in-Err-Refused.ensures.halted,
      c.in_ok-push-in-Err-Refused.ensures.items,
    )
