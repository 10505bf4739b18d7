use Rattle.std.proofs.lemmas.Result.{err_from_is_err_and}
use Rattle.batch_verdicts.proofs.RecipeTexts.{are_digested}
use Rattle.batch_verdicts.proofs.digested.clear_digested.Goals as goal

pub returns-clause-digested : goal.returns-clause-digested
returns-clause-digested g c =
    let cell = c.in_ok-cell.ensures.read in
    are_digested (g.D.Documents.gives c.args.documents.now) _ _ _ _ c.in_ok-set.set cell.0 _ _ _ _ c.new-digest.ensures cell.1 cell.2 c.in_ok-set.ensures.cleared c.digits.ensures

pub returns-in_err-set-clause-halted : goal.returns-in_err-set-clause-halted
returns-in_err-set-clause-halted g c =
    let p = err_from_is_err_and c.from_residual-in_err-set.result c.from_residual-in_err-set.ensures.1 in
    let cell = c.in_ok-cell.ensures.read in
    rw (p.1, p.2) (c.in_err-set.ensures.halted _ (cell.0, cell.1.0, cell.1.1))
