use Rattle.std.proofs.Common.{refl}
use Rattle.std.proofs.{KnownBytes.Keeps-refl, lemmas.Result.err_from_is_err_and}
use Rattle.batch_verdicts.{specs.Running.serves_desks, proofs.WarningEffects.silent}
use Rattle.batch_verdicts.proofs.running.serve_desks.Goals as goal

pub returns : goal.returns
returns g c = λ told said. serves_desks c.args.words.journal _ _ _ _ c.in_ok-served.served c.args.words.times refl
    (rw (c.deref.ensures, c.deref-2.ensures, c.deref-3.ensures, c.deref-4.ensures.value) at c.in_ok-served.ensures.set) (Keeps-refl _) (Keeps-refl _)

pub returns-in_err-served : goal.returns-in_err-served
returns-in_err-served g c =
    let p = err_from_is_err_and c.from_residual.result c.from_residual.ensures.1 in
    rw (p.1, p.2) (λ told said. ((rw (c.deref.ensures, c.deref-2.ensures, c.deref-3.ensures, c.deref-4.ensures.value) at c.in_err-served.ensures.halted, silent _ _), refl))
