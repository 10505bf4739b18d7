use Rattle.std.proofs.Common.{inl, inr}
use Rattle.std.proofs.lemmas.Result.{IfErr-weaker, err_from_is_err_and}
use Rattle.batch_verdicts.proofs.RecipeTexts.{clears_behind, reads_recipes}
use Rattle.batch_verdicts.proofs.documents.clear_behind.Goals as goal

pub returns-clause-cleared : goal.returns-clause-cleared
returns-clause-cleared g c =
    clears_behind g.T.TextTaker.has_taken (g.D.Documents.gives c.args.documents.now) _ _ c.args.cell c.in_ok-certificate.certificate.ranks.items c.in_ok-read.read _ _
    c.clear_recipes.result c.in_ok-certificate.ensures.read c.in_ok-read.ensures.read c.clear_recipes.ensures.set c.clear_recipes.ensures.cleared

pub returns-clause-halted : goal.returns-clause-halted
returns-clause-halted g c =
    let recipes = c.in_ok-read.ensures.read in
    IfErr-weaker c.clear_recipes.result _ _ (λ halt refused path with_cell. inr (
      c.args.cell,
      c.in_ok-certificate.certificate.ranks.items,
      recipes.whole,
      record {
        cell_read = with_cell;
        certificate_read = c.in_ok-certificate.ensures.read;
        recipes_read = reads_recipes (g.D.Documents.gives c.args.documents.now) _ recipes.texts recipes.whole recipes.read;
      },
      (c.in_ok-read.read.recipes.items, recipes.holds.trimmed, refused),
    )) c.clear_recipes.ensures.refused

pub returns-in_err-certificate-clause-halted : goal.returns-in_err-certificate-clause-halted
returns-in_err-certificate-clause-halted g c =
    let p = err_from_is_err_and c.from_residual.result c.from_residual.ensures.1 in
    rw (p.1, p.2) (λ path with_cell. inl (inr (c.args.cell, with_cell, inl c.in_err-certificate.ensures.halted)))

pub returns-in_err-read-clause-halted : goal.returns-in_err-read-clause-halted
returns-in_err-read-clause-halted g c =
    let p = err_from_is_err_and c.from_residual-in_err-read.result c.from_residual-in_err-read.ensures.1 in
    rw (p.1, p.2) (λ path with_cell. inl (inr (
      c.args.cell,
      with_cell,
      inr (c.in_ok-certificate.certificate.ranks.items, c.in_ok-certificate.ensures.read, c.in_err-read.ensures.halted),
    )))
