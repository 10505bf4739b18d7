-- surface: the options that hold of a plant's run, and the plan of its batches.
use Rattle.std.specs.Prelude.{◌≡◌, ℕ, List, IsSomeAnd, length, slice_get}
use Rattle.std.specs.List.{All}
use Rattle.batch_cell.specs.declared.cell.Cell.{Cell}
use Rattle.batch_recipe.specs.declared.recipe.Recipe.{Recipe}
use Rattle.batch_verify.specs.ClearedSet.{ClearedSet}
use Rattle.batch_cli.specs.declared.plant_options.PlantOptions.{PlantOptions}
use Rattle.batch_sim.specs.SteadyUnit.{SteadyView, Commands, TicksSteadily}
use Rattle.batch_desk.specs.declared.batch_plan.BatchPlan.{BatchPlan}
use Rattle.batch_desk.specs.HubDone.{AreComplete}
use Rattle.batch_desk.specs.HubState.{HubState, IsHub}
use Rattle.batch_plant.specs.Plants.{ComesFromDesks, HasEventRings, HasLink}
use Rattle.batch_program.specs.PlantRuns.{first_bindings}

-- the plan of a batch of the recipe in the size of its basis, whose roles their first units take
pub record IsPlanOf (cell : Cell) (recipe : Recipe) (plan : BatchPlan) : Type 0 where
  pub name : plan.recipe ≡ recipe.acts.procedure.name
  pub size : plan.size ≡ recipe.basis
  pub roles : plan.roles.items ≡ first_bindings cell recipe.roles.items

-- the plan is that of a batch of the set's first recipe
abbrev pub IsFirstPlan : ClearedSet → BatchPlan → Type 0
IsFirstPlan set plan = IsSomeAnd (slice_get set.recipes 0) (λ recipe. IsPlanOf set.cell recipe plan)

-- a hub over this set has handled so many events, which came in rings of as many places as the options say, and its batches are
-- complete. The console's events are creates by the plan of the set's first recipe, and starts; the link's events came from steady
-- units, each of whose phases runs for as many ticks as the options say
pub record RunsBy (set : ClearedSet) (options : PlantOptions) (handled : ℕ) : Type 0 where
  pub hub : HubState
  pub account : IsHub hub
  pub over : hub.engine.cleared ≡ set
  pub complete : AreComplete options.batches hub
  pub count : handled ≡ length hub.history
  pub rings : HasEventRings options.ring hub
  pub plan : BatchPlan
  pub first : IsFirstPlan set plan
  pub desks : ComesFromDesks plan options.batches hub
  pub units : List SteadyView
  pub ticks : All (λ unit. unit.ticks ≡ options.ticks) units
  pub link : HasLink Commands TicksSteadily set.cell units hub
