-- private: the soundness of a recipe's parts before its nodes are counted, and the fault of that count.
use Rattle.std.specs.Prelude.{◌≡◌, ◌<◌, ◌≤◌, true, List, length, None}
use Rattle.batch_recipe.specs.Conditions.{Name}
use Rattle.batch_recipe.specs.WellFormed.{are_reports, are_reserves, are_roles, is_well_formed, value_names}
use Rattle.batch_recipe.specs.declared.acts.Acts.{Acts}
use Rattle.batch_recipe.specs.declared.outline_fault.OutlineFault.{OutlineFault}
use Rattle.batch_recipe.specs.declared.outline_fault.OutlineFault.TheVariants as outline
use Rattle.batch_recipe.specs.declared.quantity.Quantity.{Quantity}
use Rattle.batch_recipe.specs.declared.recipe.TheConstants.{MAX_ENTRIES, MAX_ACTS}
use Rattle.batch_recipe.specs.declared.role.Role.{Role}
use Rattle.batch_recipe.specs.declared.role.TheConstants.{MAX_ROLES}
use Rattle.batch_reader.specs.declared.fault.EntryFault.TheVariants.{OutOfLimit}
use Rattle.batch_reader.specs.declared.fault.TableFault.{TableFault}
use Rattle.batch_reader.specs.declared.fault.TableFault.TheVariants.{Entry, Memory}
use Rattle.batch_reader.specs.declared.fault.TableKind.TheVariants.{Procedure}

-- sound, but for the size of the expanded tree
pub record HasSoundTables (inputs parameters : List Quantity) (outputs : List Name) (roles : List Role) (acts : Acts) : Type 0 where
  pub few_inputs : length inputs ≤ MAX_ENTRIES
  pub few_parameters : length parameters ≤ MAX_ENTRIES
  pub few_outputs : length outputs ≤ MAX_ENTRIES
  pub few_roles : length roles ≤ MAX_ROLES
  pub some_unit_procedures : 0 < length acts.unit_procedures.items
  pub few_unit_procedures : length acts.unit_procedures.items ≤ MAX_ACTS
  pub some_operations : 0 < length acts.operations.items
  pub few_operations : length acts.operations.items ≤ MAX_ACTS
  pub some_phases : 0 < length acts.phases.items
  pub few_phases : length acts.phases.items ≤ MAX_ACTS
  pub well_formed : is_well_formed (value_names inputs parameters outputs) acts ≡ true
  pub own_roles : are_roles roles acts ≡ true
  pub own_reports : are_reports outputs acts ≡ true
  pub own_reserves : are_reserves acts ≡ true

-- a fault in the size of the expanded tree is reported at the procedure
abbrev pub outline_fault : OutlineFault → TableFault
outline_fault outline.TooMany = Entry (record { kind = Procedure; entry = 0 }) (OutOfLimit None)
outline_fault outline.Memory = Memory
