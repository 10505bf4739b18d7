-- surface: the names of a recipe's acts, table by table.
use Rattle.std.specs.Prelude.{◌≡◌}
use Rattle.batch_recipe.specs.WellFormed.{act_names}
use Rattle.batch_recipe.specs.declared.acts.Acts.{Acts}
use Rattle.batch_recipe.specs.declared.recipe_names.TableNames.{TableNames}

-- they are those of the acts of each table, in its order
pub record AreNamesOf (names : TableNames) (a : Acts) : Type 0 where
  pub unit_procedures : names.unit_procedures.keys ≡ act_names a.unit_procedures.items
  pub operations : names.operations.keys ≡ act_names a.operations.items
  pub phases : names.phases.keys ≡ act_names a.phases.items
