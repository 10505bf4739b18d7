use Rattle.std.proofs.Common.{inr}
use Rattle.std.proofs.lemmas.Result.{err_from_is_err_and}
use Rattle.batch_verdicts.proofs.RecipeTexts.{reads_recipes}
use Rattle.batch_verdicts.proofs.documents.read_each.Goals as goal

pub returns-clause-read : goal.returns-clause-read
returns-clause-read g c =
    let cell = c.in_ok-cell.ensures.read in
    let recipes = c.in_ok-recipes.ensures.read in
    record {
      whole = recipes.whole;
      cell_read = (cell.0, cell.1.0, cell.1.1);
      recipes_read = reads_recipes (g.D.Documents.gives c.args.documents.now) _ recipes.texts recipes.whole recipes.read;
      holds = recipes.holds;
    }

pub returns-in_err-recipes-clause-halted : goal.returns-in_err-recipes-clause-halted
returns-in_err-recipes-clause-halted g c =
    let p = err_from_is_err_and c.from_residual-in_err-recipes.result c.from_residual-in_err-recipes.ensures.1 in
    let cell = c.in_ok-cell.ensures.read in
    rw (p.1, p.2) (inr (c.in_ok-cell.cell, (cell.0, cell.1.0, cell.1.1), c.in_err-recipes.ensures.halted))
