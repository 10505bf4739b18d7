use Rattle.batch_check.specs.Takings.{AreUnitsOf}
use Rattle.batch_check.proofs.binding.units_of_each.Given as goal

abbrev pub invariant-loop-number : goal.invariant-loop-number
invariant-loop-number l = AreUnitsOf l.cell l.recipe.roles.items l.number l.units.items
