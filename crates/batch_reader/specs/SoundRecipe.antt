-- trusted: the counts and the names of a recipe's parts are as they must be.
use Rattle.std.specs.Prelude.{◌≡◌, ◌<◌, ◌≤◌, true, List, length}
use Rattle.batch_recipe.specs.Conditions.{Name}
use Rattle.batch_recipe.specs.Procedure.{procedure_nodes}
use Rattle.batch_recipe.specs.WellFormed.{are_reports, are_reserves, are_roles, is_well_formed, value_names}
use Rattle.batch_recipe.specs.declared.acts.Acts.{Acts}
use Rattle.batch_recipe.specs.declared.quantity.Quantity.{Quantity}
use Rattle.batch_recipe.specs.declared.recipe.TheConstants.{MAX_ENTRIES, MAX_ACTS, MAX_NODES}
use Rattle.batch_recipe.specs.declared.role.Role.{Role}
use Rattle.batch_recipe.specs.declared.role.TheConstants.{MAX_ROLES}

pub record IsSoundRecipe (inputs parameters : List Quantity) (outputs : List Name) (roles : List Role) (acts : Acts) : Type 0 where
  pub few_inputs : length inputs ≤ MAX_ENTRIES
  pub few_parameters : length parameters ≤ MAX_ENTRIES
  pub few_outputs : length outputs ≤ MAX_ENTRIES
  pub few_roles : length roles ≤ MAX_ROLES
  pub some_unit_procedures : 0 < length acts.unit_procedures.items
  pub few_unit_procedures : length acts.unit_procedures.items ≤ MAX_ACTS
  pub some_operations : 0 < length acts.operations.items
  pub few_operations : length acts.operations.items ≤ MAX_ACTS
  pub some_phases : 0 < length acts.phases.items
  pub few_phases : length acts.phases.items ≤ MAX_ACTS
  -- names differ, and the names that charts, conditions and phase steps use are declared
  pub well_formed : is_well_formed (value_names inputs parameters outputs) acts ≡ true
  -- names of roles differ, and those that unit procedures name are declared
  pub own_roles : are_roles roles acts ≡ true
  -- phase steps report outputs of the recipe
  pub own_reports : are_reports outputs acts ≡ true
  -- acts reserve unit procedures of the recipe
  pub own_reserves : are_reserves acts ≡ true
  -- the expanded tree
  pub small : length (procedure_nodes acts) ≤ MAX_NODES
