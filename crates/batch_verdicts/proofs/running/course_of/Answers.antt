use Rattle.std.proofs.Common.{map, refl, string_bytes}
use Rattle.std.proofs.{KnownBytes.Keeps-refl, lemmas.Result.err_from_is_err_and}
use Rattle.batch_cli.specs.CommandLine.{judgement_of, source_of}
use Rattle.batch_verdicts.{specs.Running.draws, specs.Running.explains, specs.Running.judges, specs.Running.keeps, specs.Running.reads, specs.Running.remarks, specs.Running.serves, specs.Running.writes, proofs.WarningEffects.silent}
use Rattle.batch_verdicts.proofs.running.course_of.Goals as goal

pub returns-in_ok-text-in-Judge : goal.returns-in_ok-text-in-Judge
returns-in_ok-text-in-Judge g c =
    rw c.in-Judge.is
    (judges (judgement_of c.in-Judge.judgement) _ _ _ refl c.in_ok-text-in-Judge.ensures.verdict (rw c.deref.ensures at c.print.ensures))

pub returns-in_err-text-in-Judge : goal.returns-in_err-text-in-Judge
returns-in_err-text-in-Judge g c =
    let p = err_from_is_err_and c.from_residual.result c.from_residual.ensures.1 in
    rw (p.1, p.2, c.in-Judge.is) (c.in_err-text-in-Judge.ensures.halted, refl)

pub returns-in_ok-text-in-Write : goal.returns-in_ok-text-in-Write
returns-in_ok-text-in-Write g c =
    rw c.in-Write.is
    (writes (judgement_of c.in-Write.judgement) c.in-Write.path c.in_ok-text-in-Write.text refl
    c.in_ok-text-in-Write.ensures.verdict (Keeps-refl _))

pub returns-in_err-text-in-Write : goal.returns-in_err-text-in-Write
returns-in_err-text-in-Write g c =
    let p = err_from_is_err_and c.from_residual-in_err-text-in-Write.result c.from_residual-in_err-text-in-Write.ensures.1 in
    rw (p.1, p.2, c.in-Write.is) (c.in_err-text-in-Write.ensures.halted, refl)

pub returns-in_ok-set-in-Serve : goal.returns-in_ok-set-in-Serve
returns-in_ok-set-in-Serve g c =
    rw c.in-Serve.is
    (serves (source_of c.in-Serve.source) _ refl c.in_ok-set-in-Serve.ensures.set (Keeps-refl _) (Keeps-refl _))

pub returns-in_err-set-in-Serve : goal.returns-in_err-set-in-Serve
returns-in_err-set-in-Serve g c =
    let p = err_from_is_err_and c.from_residual-in_err-set-in-Serve.result c.from_residual-in_err-set-in-Serve.ensures.1 in
    rw (p.1, p.2, c.in-Serve.is) ((c.in_err-set-in-Serve.ensures.halted, silent _ _), refl)

pub returns-in_ok-clear_source-in-Remark : goal.returns-in_ok-clear_source-in-Remark
returns-in_ok-clear_source-in-Remark g c =
    rw c.in-Remark.is
    (remarks (source_of c.in-Remark.source) _ _ refl c.in_ok-clear_source-in-Remark.ensures.set (Keeps-refl _) (Keeps-refl _))

pub returns-in_err-clear_source-in-Remark : goal.returns-in_err-clear_source-in-Remark
returns-in_err-clear_source-in-Remark g c =
    let p = err_from_is_err_and c.from_residual-in_err-clear_source-in-Remark.result c.from_residual-in_err-clear_source-in-Remark.ensures.1 in
    rw (p.1, p.2, c.in-Remark.is) ((c.in_err-clear_source-in-Remark.ensures.halted, silent _ _), refl)

pub returns-in_ok-clear_digested-in-Keep : goal.returns-in_ok-clear_digested-in-Keep
returns-in_ok-clear_digested-in-Keep g c =
    rw c.in-Keep.is
    (keeps (string_bytes c.in-Keep.cell) (string_bytes c.in-Keep.certificate) (map string_bytes c.in-Keep.recipes.items) _ _ _ refl
    (rw (c.deref-in-Keep.ensures, c.deref-in-Keep-2.ensures, c.deref-in-Keep-3.ensures.value) at c.in_ok-clear_digested-in-Keep.ensures.digested) (Keeps-refl _) (Keeps-refl _))

pub returns-in_err-clear_digested-in-Keep : goal.returns-in_err-clear_digested-in-Keep
returns-in_err-clear_digested-in-Keep g c =
    let p = err_from_is_err_and c.from_residual-in_err-clear_digested-in-Keep.result c.from_residual-in_err-clear_digested-in-Keep.ensures.1 in
    rw (p.1, p.2, c.in-Keep.is) ((rw (c.deref-in-Keep.ensures, c.deref-in-Keep-2.ensures, c.deref-in-Keep-3.ensures.value) at c.in_err-clear_digested-in-Keep.ensures.halted, silent _ _), refl)

pub returns-in-Status : goal.returns-in-Status
returns-in-Status g c =
    rw c.in-Status.is
    (reads c.in-Status.path refl (Keeps-refl _) (Keeps-refl _))

pub returns-in-Picture : goal.returns-in-Picture
returns-in-Picture g c =
    rw c.in-Picture.is
    (draws c.in-Picture.path refl (Keeps-refl _) (Keeps-refl _))

pub returns-in-Explain : goal.returns-in-Explain
returns-in-Explain g c =
    rw c.in-Explain.is (explains (map string_bytes c.deref-in-Explain.result.now) _ (cc c.deref-in-Explain.ensures.value) c.print_codes.ensures)

pub returns-in-ServeDesks : goal.returns-in-ServeDesks
returns-in-ServeDesks g c = rw c.in-ServeDesks.is (c.serve_desks.ensures _ _)

pub returns-in-Audit : goal.returns-in-Audit
returns-in-Audit g c = rw c.in-Audit.is (c.audit.ensures _ _ _)

pub returns-in-Plant : goal.returns-in-Plant
returns-in-Plant g c = rw c.in-Plant.is (c.plant.ensures _ _ _)
