-- surface: the invariant of the engine.
use Rattle.std.specs.Prelude.{◌≡◌, ℕ, ◌+◌, ◌<◌, ◌≤◌, List, length, sum_by, Some}
use Rattle.batch_cell.specs.LookUps.{capacities_of, units_of}
use Rattle.batch_recipe.specs.Conditions.{Name}
use Rattle.batch_recipe.specs.declared.role.TheConstants.{MAX_ROLES}
use Rattle.batch_model.specs.Lists.{Each}
use Rattle.batch_model.specs.Cleared.{CanBeCleared}
use Rattle.batch_model.specs.Plant.{opening}
use Rattle.batch_model.specs.Events.{Event}
use Rattle.batch_model.specs.Runs.{Out, Leads}
use Rattle.batch_model.specs.Records.{holders_told}
use Rattle.batch_record_laws.specs.Once.{IsOnce}
use Rattle.batch_verify.specs.ClearedSet.{ClearedSet}
use Rattle.batch_arbiter.specs.Allocation.{Allocation, line_of_asks, shares_at}
use Rattle.batch_chart.specs.NodesOf.{needs_in}
use Rattle.batch_chart.specs.Charts.{IsRunningOf}
use Rattle.batch_engine.specs.declared.batch.Batch.{Batch}
use Rattle.batch_engine.specs.Batches.{BatchList, HaveOwnNumbers}
use Rattle.batch_engine.specs.View.{EngineView, setup, claimed_shares, names_of, resource_number, plant_of, tree_of}

-- a record leads to the plant, and the shares of each resource are those that it tells, in the same order
pub record IsTracked (v : EngineView) : Type 0 where
  pub events : List Event
  pub outs : List Out
  pub leads : Leads (setup v.cleared) opening events outs (plant_of v)
  pub shares : (k : ℕ) (name : Name) → resource_number v.cleared name ≡ Some k → claimed_shares v.cleared v.batches (shares_at v.allocation k) ≡ holders_told outs name

-- the arbiter has the cell's resources
pub record IsOfCell (c : ClearedSet) (a : Allocation) : Type 0 where
  pub capacities : a.capacities ≡ capacities_of c.cell
  pub shares : length a.shares ≡ length (names_of c)
  pub lines : length a.lines ≡ length (names_of c)

-- numbers of units, one for each role that a recipe may have
pub record AreUnits (c : ClearedSet) (units : List ℕ) : Type 0 where
  pub count : length units ≡ MAX_ROLES
  pub within : Each (λ unit. unit < length (units_of c.cell)) units

-- the batch makes one of the recipes, units take its roles, and its chart runs
pub record IsRunningBatch (c : ClearedSet) (b : Batch) : Type 0 where
  pub known : b.recipe < length c.recipes
  pub units : AreUnits c b.units
  pub runs : IsRunningOf (tree_of c b) b.running

-- the number of shares that are held and of asks in queues, together
abbrev pub claims : Allocation → ℕ
claims a = sum_by (λ xs. length xs) a.shares + sum_by (λ xs. length xs) a.lines

-- how many needs all batches together can hold and ask for at once
abbrev pub needs_of_all : ClearedSet → List Batch → ℕ
needs_of_all c bs = sum_by (λ b. needs_in (tree_of c b)) bs

-- room is made for all that they can hold and ask for at once
abbrev pub HasRoom : EngineView → Type 0
HasRoom v = needs_of_all v.cleared v.batches ≤ v.allocation.room + claims v.allocation

pub record IsKept (v : EngineView) : Type 0 where
  pub cleared : CanBeCleared (setup v.cleared)
  pub batches : Each (IsRunningBatch v.cleared) v.batches
  pub cell : IsOfCell v.cleared v.allocation
  pub tracked : IsTracked v
  -- no act is in a queue twice
  pub once : (name : Name) (k : ℕ) → resource_number v.cleared name ≡ Some k → IsOnce (claimed_shares v.cleared v.batches (line_of_asks v.allocation k))
  pub room : HasRoom v

-- the invariant of a control's fields: that of the engine, each batch can be found by its number, and the needs are counted
pub record IsCounted (r : BatchList) (needs : ℕ) (v : EngineView) : Type 0 where
  pub kept : IsKept v
  pub numbers : HaveOwnNumbers r
  pub needs_are : needs ≡ needs_of_all v.cleared v.batches
