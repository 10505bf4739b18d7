use Rattle.std.proofs.lemmas.Result.{IfErr-weaker, IfOk-weaker}
use Rattle.batch_verdicts.proofs.RecipeTexts.{are_cleared}
use Rattle.batch_verdicts.proofs.documents.clear_documents.Goals as goal

pub returns-clause-cleared : goal.returns-clause-cleared
returns-clause-cleared g c =
    let cell = c.in_ok-cell.ensures.read in
    IfOk-weaker c.clear_behind.result _ _ (λ set behind. are_cleared _ (g.D.Documents.gives c.args.documents.now) _ _ _ _ set cell.0 _ _ cell.1 behind) c.clear_behind.ensures.cleared

pub returns-clause-halted : goal.returns-clause-halted
returns-clause-halted g c =
    let cell = c.in_ok-cell.ensures.read in
    IfErr-weaker c.clear_behind.result _ _ (λ halt so. so _ (cell.0, cell.1.0, cell.1.1)) c.clear_behind.ensures.halted
