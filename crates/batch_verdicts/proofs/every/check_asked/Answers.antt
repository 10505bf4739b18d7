use Rattle.std.proofs.Common.{List, inl, subst, string_bytes}
use Rattle.std.proofs.lemmas.Result.{err_from_is_err_and, IfOk-weaker}
use Rattle.batch_recipe.specs.declared.recipe.Recipe.{Recipe}
use Rattle.batch_verdicts.{specs.Judging.IsChecked, specs.Judging.RefusesCheck, proofs.DocumentRefusals.judged_asked, proofs.DocumentRefusals.so_of_asked}
use Rattle.batch_verdicts.proofs.every.check_asked.Goals as goal

pub returns-clause-verdict : goal.returns-clause-verdict
returns-clause-verdict g c =
    let read = c.in_ok-read.read in
    IfOk-weaker c.check_recipes.result _ _
    (λ text judged. let So : List Recipe → Type 0 = λ rs. IsChecked read.cell rs (string_bytes text) in
    so_of_asked c.args.all _ _ _ _ read.cell read.recipes.recipes.items _ c.in_ok-read.ensures.read (subst So c.deref.ensures.value judged))
    c.check_recipes.ensures.checked

pub returns-clause-halted : goal.returns-clause-halted
returns-clause-halted g c =
    let read = c.in_ok-read.read in
    judged_asked c.args.all _ _ _ _ read.cell read.recipes.recipes.items (λ h c rs. RefusesCheck c rs h) c.check_recipes.result c.in_ok-read.ensures.read
    (rw c.deref.ensures.value at c.check_recipes.ensures.refused)

pub returns-in_err-read-clause-halted : goal.returns-in_err-read-clause-halted
returns-in_err-read-clause-halted g c =
    let p = err_from_is_err_and c.from_residual.result c.from_residual.ensures.1 in
    rw (p.1, p.2) (inl c.in_err-read.ensures.halted)
