use Rattle.std.proofs.Common.{◌≡◌, ◌∙◌, List, inr, map, subst, string_bytes}
use Rattle.std.proofs.lemmas.Result.{err_from_is_err_and}
use Rattle.batch_recipe.specs.declared.recipe.Recipe.{Recipe}
use Rattle.batch_outline.{specs.Showing.shown_recipes, proofs.TrimmedLines.shown_trimmed}
use Rattle.batch_verdicts.proofs.HaltCauses.{halts_without_memory}
use Rattle.batch_verdicts.proofs.documents.show_documents.Goals as goal

pub returns-clause-verdict : goal.returns-clause-verdict
returns-clause-verdict g c =
    let So : List Recipe → Type 0 = λ rs. string_bytes c.in_ok-show_recipes.field-0 ≡ shown_recipes rs in
    let read = c.in_ok-read.ensures.read in
    record {
      equipment = c.in_ok-read.read.cell;
      recipes = read.whole;
      cell_read = read.cell_read;
      recipes_read = read.recipes_read;
      judged = subst So c.deref.ensures.value c.in_ok-show_recipes.ensures ∙ shown_trimmed read.whole _ read.holds.trimmed;
    }

pub returns-in_err-show_recipes-clause-halted : goal.returns-in_err-show_recipes-clause-halted
returns-in_err-show_recipes-clause-halted g c =
    let p = err_from_is_err_and c.from_residual-in_err-show_recipes.result c.from_residual-in_err-show_recipes.ensures.1 in
    rw (p.1, p.2) (inr (c.in_ok-read.read.cell, c.in_ok-read.ensures.read.cell_read, halts_without_memory (g.D.Documents.gives c.args.documents.now) (map string_bytes c.args.recipes.now)))
