use Rattle.std.proofs.Common.{subst}
use Rattle.batch_verdicts.specs.{Judging.HaltsWith, Judging.fault_kind, VerdictTexts.fault_text, declared.refusal.Halt.Halt}
use Rattle.batch_verdicts.proofs.every.rule_refusal.Goals as goal

pub returns-in-Refused-clause-text : goal.returns-in-Refused-clause-text
returns-in-Refused-clause-text c =
    let text = fault_text c.args.cell.now c.args.recipes.now c.args.fault.now in
    let Told : Halt → Type 0 = HaltsWith text (fault_kind c.args.fault.now) in
    (subst Told c.in-Refused.is (c.fault_halt.ensures text c.fault_text-text.ensures)).0

pub returns-in-Refused-clause-kind : goal.returns-in-Refused-clause-kind
returns-in-Refused-clause-kind c =
    let text = fault_text c.args.cell.now c.args.recipes.now c.args.fault.now in
    let Told : Halt → Type 0 = HaltsWith text (fault_kind c.args.fault.now) in
    (subst Told c.in-Refused.is (c.fault_halt.ensures text c.fault_text-text.ensures)).1
