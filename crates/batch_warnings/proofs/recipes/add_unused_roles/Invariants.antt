use Rattle.std.proofs.Common.{◌≡◌, ◌++◌, not, map, take}
use Rattle.std.specs.List.{list_any}
use Rattle.batch_warnings.specs.{Warnings.numbers_passing, Warnings.takes_role, declared.warning.RecipeWarning.TheVariants.UnusedRole}
use Rattle.batch_warnings.proofs.recipes.add_unused_roles.Given as goal

abbrev pub invariant-loop-number : goal.invariant-loop-number
invariant-loop-number l = l.warnings.items ≡ l.initial.warnings.items ++ map UnusedRole (numbers_passing (λ role. not (list_any (takes_role role.name) l.recipe.acts.unit_procedures.items)) 0 (take l.number l.role-items))
