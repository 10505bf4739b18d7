use Rattle.std.proofs.Common.{◌≡◌, ◌++◌, ◌&&◌, not, map, take}
use Rattle.std.specs.List.{list_any}
use Rattle.batch_warnings.specs.{Warnings.numbers_passing, Warnings.takes_value, declared.warning.RecipeWarning.TheVariants.ScaledParameter}
use Rattle.batch_warnings.proofs.recipes.add_scaled_parameters.Given as goal

abbrev pub invariant-loop-number : goal.invariant-loop-number
invariant-loop-number l = l.warnings.items ≡ l.initial.warnings.items ++ map ScaledParameter (numbers_passing (λ q. not q.fixed && list_any (takes_value q.name) l.recipe.acts.phases.items) 0 (take l.number l.parameter-items))
