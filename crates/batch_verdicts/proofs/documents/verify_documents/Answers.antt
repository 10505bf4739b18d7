use Rattle.std.proofs.Common.{inl, inr, map, string_bytes}
use Rattle.std.proofs.lemmas.Result.{err_from_is_err_and}
use Rattle.batch_verify.specs.declared.refusal.SetRefusal.TheVariants.{Memory}
use Rattle.batch_verdicts.{specs.Reading.Warns, specs.Saying.IsWarned, proofs.RecipeTexts.are_read, proofs.WarningEffects.silent, proofs.WarningEffects.verified}
use Rattle.batch_verdicts.proofs.documents.verify_documents.Goals as goal

pub returns-in_err-cell-clause-halted : goal.returns-in_err-cell-clause-halted
returns-in_err-cell-clause-halted g c =
    let p = err_from_is_err_and c.from_residual.result c.from_residual.ensures.1 in
    rw (p.1, p.2) (inl (inl c.in_err-cell.ensures.halted, silent _ _))

pub returns-in_err-certificate-clause-halted : goal.returns-in_err-certificate-clause-halted
returns-in_err-certificate-clause-halted g c =
    let p = err_from_is_err_and c.from_residual-in_err-certificate.result c.from_residual-in_err-certificate.ensures.1 in
    let cell = c.in_ok-cell.ensures.read in
    rw (p.1, p.2) (inl (inr (c.in_ok-cell.cell, (cell.0, cell.1.0, cell.1.1), inl c.in_err-certificate.ensures.halted), silent _ _))

pub returns-in_err-read-clause-halted : goal.returns-in_err-read-clause-halted
returns-in_err-read-clause-halted g c =
    let p = err_from_is_err_and c.from_residual-in_err-read.result c.from_residual-in_err-read.ensures.1 in
    let cell = c.in_ok-cell.ensures.read in
    rw (p.1, p.2) (inl (
      inr (
        c.in_ok-cell.cell,
        (cell.0, cell.1.0, cell.1.1),
        inr (c.in_ok-certificate.certificate.ranks.items, c.in_ok-certificate.ensures.read, c.in_err-read.ensures.halted),
      ),
      silent _ _,
    ))

pub returns-in_err-clear_recipes-clause-halted : goal.returns-in_err-clear_recipes-clause-halted
returns-in_err-clear_recipes-clause-halted g c =
    let p = err_from_is_err_and c.from_residual-in_err-clear_recipes.result c.from_residual-in_err-clear_recipes.ensures.1 in
    let cell = c.in_ok-cell in
    let certificate = c.in_ok-certificate in
    let read = c.in_ok-read in
    rw (p.1, p.2) (inr (
      cell.cell,
      certificate.certificate.ranks.items,
      read.ensures.read.whole,
      are_read (g.D.Documents.gives c.args.documents.now) _ _ _ _ _ _ cell.ensures.read.0 _ cell.ensures.read.1 certificate.ensures.read read.ensures.read.read,
      c.warn.ensures _ read.ensures.read.holds.lines,
      (read.read.recipes.items, read.ensures.read.holds.trimmed, c.in_err-clear_recipes.ensures.refused),
    ))

pub returns-in_err-from_str-clause-halted : goal.returns-in_err-from_str-clause-halted
returns-in_err-from_str-clause-halted g c =
    let p = err_from_is_err_and c.from_residual-in_err-from_str.result c.from_residual-in_err-from_str.ensures.1 in
    let cell = c.in_ok-cell in
    let certificate = c.in_ok-certificate in
    let read = c.in_ok-read in
    rw (p.1, p.2) (inr (
      cell.cell,
      certificate.certificate.ranks.items,
      read.ensures.read.whole,
      are_read (g.D.Documents.gives c.args.documents.now) _ _ _ _ _ _ cell.ensures.read.0 _ cell.ensures.read.1 certificate.ensures.read read.ensures.read.read,
      c.warn.ensures _ read.ensures.read.holds.lines,
      (read.read.recipes.items, read.ensures.read.holds.trimmed, (Memory, tt, tt)),
    ))

pub returns-clause-verdict : goal.returns-clause-verdict
returns-clause-verdict g c =
    let cell = c.in_ok-cell in
    let certificate = c.in_ok-certificate in
    let read = c.in_ok-read in
    let cleared = c.in_ok-clear_recipes in
    let gives = g.D.Documents.gives c.args.documents.now in
    let warns : Warns = IsWarned c.args.quiet (g.E.Write.contents c.args.errors.now) (g.E.Write.contents c.warn.new.errors) in
    let paths = map string_bytes c.args.recipes.now in (
      c.in_ok-from_str.ensures.ok,
      verified gives warns c.args.cell.now c.args.certificate.now paths cell.cell certificate.certificate.ranks.items read.ensures.read.whole read.read.recipes.items cleared.field-0
          cleared.ensures.set.0 cleared.ensures.set.1
          (are_read gives _ _ _ _ _ _ cell.ensures.read.0 _ cell.ensures.read.1 certificate.ensures.read read.ensures.read.read) read.ensures.read.holds.trimmed
          cleared.ensures.cleared (c.warn.ensures _ read.ensures.read.holds.lines),
    )
