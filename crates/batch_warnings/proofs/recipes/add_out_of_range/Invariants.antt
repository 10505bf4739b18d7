use Rattle.std.proofs.Common.{◌≡◌, ◌++◌, not, map, take}
use Rattle.batch_recipe.specs.Formula.{is_in_range}
use Rattle.batch_warnings.specs.{Warnings.numbers_passing, declared.warning.RecipeWarning.TheVariants.ValueOutOfRange}
use Rattle.batch_warnings.proofs.recipes.add_out_of_range.Given as goal

abbrev pub invariant-loop-number : goal.invariant-loop-number
invariant-loop-number l = l.warnings.items ≡ l.initial.warnings.items ++ map (ValueOutOfRange l.table) (numbers_passing (λ q. not (is_in_range l.recipe.basis l.recipe.basis q)) 0 (take l.number l.quantity-items))
