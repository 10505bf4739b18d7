use Rattle.std.proofs.Common.{◌≡◌, ◌++◌, not, map, take}
use Rattle.batch_warnings.specs.{Warnings.numbers_passing, Warnings.is_named, declared.warning.RecipeWarning.TheVariants.UnnamedAct}
use Rattle.batch_warnings.proofs.recipes.add_unnamed.Given as goal

abbrev pub invariant-loop-number : goal.invariant-loop-number
invariant-loop-number l = l.warnings.items ≡ l.initial.warnings.items ++ map (UnnamedAct l.table) (numbers_passing (λ a. not (is_named l.acts l.table a)) 0 (take l.number l.act-items))
