-- trusted: the outcome of the command `plant`, and its printed lines.
use Rattle.std.specs.Prelude.{◌≡◌, ◌≤◌, ◌⊎◌, ◌++◌, ℕ, List, [], ◌∷◌, Option, Some, None, Result, Ok, Err, IsSomeAnd, codes, decimal, length, slice_get, ⊤}
use Rattle.std.specs.List.{All}
use Rattle.batch_matrix.specs.declared.command.Command.TheVariants.{Start}
use Rattle.batch_matrix.specs.declared.state.State.TheVariants.{Complete}
use Rattle.batch_cell.specs.LookUps.{units_of_class}
use Rattle.batch_cell.specs.declared.cell.Cell.{Cell}
use Rattle.batch_recipe.specs.Conditions.{Name}
use Rattle.batch_recipe.specs.declared.recipe.Recipe.{Recipe}
use Rattle.batch_recipe.specs.declared.role.Role.{Role}
use Rattle.batch_model.specs.Events.{Event, create, order, remove, report}
use Rattle.batch_model.specs.Plant.{Plant, batch_at, opening}
use Rattle.batch_model.specs.Runs.{Leads, Out}
use Rattle.batch_verify.specs.ClearedSet.{ClearedSet}
use Rattle.batch_engine.specs.View.{setup}
use Rattle.batch_verdicts.specs.Running.{IsPrinted, IsUnwritten, Stream, memory_status}
use Rattle.batch_plant.specs.declared.plant_fault.PlantFault.{PlantFault}
use Rattle.batch_plant.specs.declared.plant_fault.PlantFault.TheVariants.{Memory, Thread, Refused, TurnsOut, Unclosed}

-- Texts

-- the lines of a plant whose batches are complete, with how many events its hub has handled
abbrev pub plant_text : ℕ → ℕ → List ℕ
plant_text batches handled =
    codes "batches " ++ (decimal batches ++ (codes "\ncomplete " ++ (decimal batches ++ (codes "\nhandled " ++ (decimal handled ++ codes "\n")))))

-- the line of a plant in which the turns of a worker ran out
abbrev pub turns_out_text : List ℕ
turns_out_text = codes "refused turns\n"

-- the exit status with that line
abbrev pub refused_status : ℕ
refused_status = 1

-- Runs

-- a role with the unit that takes it, before other bindings; one that no unit may take has none
abbrev pub with_binding : Name → Option Name → List (Name × Name) → List (Name × Name)
with_binding role None bindings = bindings
with_binding role (Some unit) bindings = (role, unit) ∷ bindings

-- each role with the first unit of the cell that has its class
abbrev pub first_bindings : Cell → List Role → List (Name × Name)
first_bindings cell [] = []
first_bindings cell (role ∷ roles) = with_binding role.name (slice_get (units_of_class cell role.class) 0) (first_bindings cell roles)

-- a create of the recipe in the size of its basis, whose roles their first units take, a start, or a report
abbrev pub IsOfRun : Cell → Recipe → Event → Type 0
IsOfRun cell recipe (create name size roles) = (name ≡ recipe.acts.procedure.name) × (size ≡ recipe.basis) × (roles ≡ first_bindings cell recipe.roles.items)
IsOfRun cell recipe (order command batch) = command ≡ Start
IsOfRun cell recipe (remove batch) = ⊥
IsOfRun cell recipe (report unit phase word outputs) = ⊤

-- a record over this set has so many events, by which batches of the first recipe alone are made, and in the plant to which it leads
-- batches 1 to the number asked for are complete
pub record HasRun (set : ClearedSet) (batches handled : ℕ) : Type 0 where
  pub events : List Event
  pub outs : List Out
  pub plant : Plant
  pub leads : Leads (setup set) opening events outs plant
  pub complete : (n : ℕ) → 1 ≤ n → n ≤ batches → IsSomeAnd (batch_at plant n) (λ batch. batch.state ≡ Complete)
  pub count : handled ≡ length events
  pub made : IsSomeAnd (slice_get set.recipes 0) (λ recipe. All (IsOfRun set.cell recipe) events)

-- the three lines are printed, or the one. But the output stays as it was, and the fault is reported on the errors in a free text, if
-- - memory is wanting;
-- - a thread can't be started;
-- - a create is refused;
-- - a port can't be closed
abbrev pub IsPlantTold : Stream → Stream → ℕ → Result ℕ PlantFault → ℕ → Type 0
IsPlantTold output errors batches (Ok handled) status =
    IsPrinted output errors (plant_text batches handled) 0 status ⊎ (IsUnwritten output × (status ≡ memory_status))
IsPlantTold output errors batches (Err TurnsOut) status = IsPrinted output errors turns_out_text refused_status status
IsPlantTold output errors batches (Err Memory) status = IsUnwritten output × (status ≡ memory_status)
IsPlantTold output errors batches (Err Thread) status = IsUnwritten output × (status ≡ memory_status)
IsPlantTold output errors batches (Err Refused) status = IsUnwritten output × (status ≡ memory_status)
IsPlantTold output errors batches (Err Unclosed) status = IsUnwritten output × (status ≡ memory_status)
