use Rattle.std.proofs.Common.{refl}
use Rattle.std.proofs.{KnownBytes.Keeps-refl, lemmas.Result.err_from_is_err_and}
use Rattle.batch_verdicts.{specs.Running.audits, proofs.WarningEffects.silent}
use Rattle.batch_verdicts.proofs.running.audit.Goals as goal

pub returns : goal.returns
returns g c = λ quiet told said. audits c.args.words c.in_ok-set.set refl c.in_ok-set.ensures.set (Keeps-refl _) (Keeps-refl _)

pub returns-in_err-set : goal.returns-in_err-set
returns-in_err-set g c =
    let p = err_from_is_err_and c.from_residual.result c.from_residual.ensures.1 in
    rw (p.1, p.2) (λ quiet told said. ((c.in_err-set.ensures.halted, silent quiet said), refl))
