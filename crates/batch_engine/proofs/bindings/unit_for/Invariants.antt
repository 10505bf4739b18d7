use Rattle.std.proofs.Common.{◌≡◌, ◌<◌, ℕ, Some, true, false, slice_get}
use Rattle.batch_cell.specs.{LookUps.is_of_class, declared.unit.Unit.Unit}
use Rattle.batch_recipe.specs.Conditions.{same_name}
use Rattle.batch_model.specs.Events.{bound_by}
use Rattle.batch_engine.proofs.bindings.unit_for.Given as goal

-- no unit before is one of the class that the pairs give to the role
abbrev pub invariant-loop-number : goal.invariant-loop-number
invariant-loop-number l =
    (k : ℕ) (u : Unit) → k < l.number → slice_get l.cell.units.items k ≡ Some u → is_of_class l.role.class u ≡ true → same_name u.name (bound_by l.pairs l.role.name) ≡ false
