-- trusted: the promises of clearance for the recipes of a cell, as they are read from documents.
use Rattle.std.specs.Prelude.{◌≡◌, List, None}
use Rattle.batch_cell.specs.declared.cell.Cell as equipment
use Rattle.batch_recipe.specs.declared.recipe.Recipe as document
use Rattle.batch_model.specs.Lists.{Each}
use Rattle.batch_model.specs.Plant.{Plant, opening}
use Rattle.batch_model.specs.Moves.{next}
use Rattle.batch_model.specs.Events.{Event}
use Rattle.batch_model.specs.Runs.{Out, Leads}
use Rattle.batch_model.specs.Records.{IsSafe}
use Rattle.batch_model.specs.Cleared.{CanBeCleared}
use Rattle.batch_model.specs.Setups.{setup_of}
use Rattle.batch_model.specs.Transfers.{KeepsUnits}
use Rattle.batch_safety.specs.Settlement.{WaitsForSomething}
use Rattle.batch_record_laws.specs.Telling.{IsTold}

-- the promises for every record that the recipes lead to in the cell
pub record RunsSafely (cell : equipment.Cell) (recipes : List document.Recipe) : Type 0 where
  pub safe : (events : List Event) (record_so_far : List Out) (plant : Plant)
      → Leads (setup_of cell recipes) opening events record_so_far plant
      → IsSafe (setup_of cell recipes) record_so_far
  pub told : (events : List Event) (record_so_far : List Out) (plant : Plant)
      → Leads (setup_of cell recipes) opening events record_so_far plant
      → IsTold record_so_far plant
  pub kept : (events : List Event) (record_so_far : List Out) (plant : Plant)
      → Leads (setup_of cell recipes) opening events record_so_far plant
      → Each (KeepsUnits record_so_far) plant.batches
  pub settled : (events : List Event) (record_so_far : List Out) (plant : Plant)
      → Leads (setup_of cell recipes) opening events record_so_far plant
      → next (setup_of cell recipes) plant ≡ None → WaitsForSomething (setup_of cell recipes) plant

abbrev pub ClearedSetsRunSafely : Type 0
ClearedSetsRunSafely =
    (cell : equipment.Cell) (recipes : List document.Recipe) → CanBeCleared (setup_of cell recipes) → RunsSafely cell recipes
