use Rattle.std.proofs.lemmas.Result.{IfErr-weaker, IfOk-weaker}
use Rattle.batch_verdicts.proofs.WarningEffects.{silent}
use Rattle.batch_verdicts.proofs.running.run_judgement.Goals as goal

pub returns-in-Check-clause-verdict : goal.returns-in-Check-clause-verdict
returns-in-Check-clause-verdict g c =
    rw c.in-Check.is (rw (c.deref.ensures, c.deref-in-Check.ensures.value) at c.check_asked.ensures.verdict)

pub returns-in-Check-clause-halted : goal.returns-in-Check-clause-halted
returns-in-Check-clause-halted g c = rw c.in-Check.is (rw (c.deref.ensures, c.deref-in-Check.ensures.value) at c.check_asked.ensures.halted)

pub returns-in-Draw-clause-verdict : goal.returns-in-Draw-clause-verdict
returns-in-Draw-clause-verdict g c =
    rw c.in-Draw.is (rw (c.deref-in-Draw.ensures, c.deref-in-Draw-2.ensures.value) at c.draw_asked.ensures.verdict)

pub returns-in-Draw-clause-halted : goal.returns-in-Draw-clause-halted
returns-in-Draw-clause-halted g c =
    rw c.in-Draw.is (rw (c.deref-in-Draw.ensures, c.deref-in-Draw-2.ensures.value) at c.draw_asked.ensures.halted)

pub returns-in-Show-clause-verdict : goal.returns-in-Show-clause-verdict
returns-in-Show-clause-verdict g c =
    rw c.in-Show.is (IfOk-weaker c.show_documents.result _ _ (λ text told. (told, silent _ _))
    (rw (c.deref-in-Show.ensures, c.deref-in-Show-2.ensures.value) at c.show_documents.ensures.verdict))

pub returns-in-Show-clause-halted : goal.returns-in-Show-clause-halted
returns-in-Show-clause-halted g c =
    rw c.in-Show.is (IfErr-weaker c.show_documents.result _ _ (λ halt told. (told, silent _ _))
    (rw (c.deref-in-Show.ensures, c.deref-in-Show-2.ensures.value) at c.show_documents.ensures.halted))

pub returns-in-Verify-clause-verdict : goal.returns-in-Verify-clause-verdict
returns-in-Verify-clause-verdict g c =
    rw c.in-Verify.is
    (rw (c.deref-in-Verify.ensures, c.deref-in-Verify-2.ensures, c.deref-in-Verify-3.ensures.value) at c.verify_documents.ensures.verdict)

pub returns-in-Verify-clause-halted : goal.returns-in-Verify-clause-halted
returns-in-Verify-clause-halted g c =
    rw c.in-Verify.is
    (rw (c.deref-in-Verify.ensures, c.deref-in-Verify-2.ensures, c.deref-in-Verify-3.ensures.value) at c.verify_documents.ensures.halted)
