use Rattle.std.proofs.Common.{◌≡◌, ◌++◌, ◌&&◌, not, map, take}
use Rattle.std.specs.List.{list_any}
use Rattle.batch_warnings.specs.{Warnings.numbers_passing, Warnings.act_reports, Warnings.is_compared, declared.warning.RecipeWarning.TheVariants.UnreportedOutput}
use Rattle.batch_warnings.proofs.recipes.add_unreported.Given as goal

abbrev pub invariant-loop-number : goal.invariant-loop-number
invariant-loop-number l = l.warnings.items ≡ l.initial.warnings.items ++ map UnreportedOutput (numbers_passing (λ name. is_compared l.recipe.acts name && not (list_any (act_reports name) l.recipe.acts.phases.items)) 0 (take l.number l.output-items))
