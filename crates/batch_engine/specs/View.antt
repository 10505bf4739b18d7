-- trusted: the view of the engine, and the plant that it stands for.
use Rattle.std.specs.Prelude.{ℕ, List, [], ◌∷◌, map, true, false, Option, Some, None, nat_eq, position}
use Rattle.std.specs.List.{slice_index_or}
use Rattle.batch_cell.specs.LookUps.{resources_of}
use Rattle.batch_recipe.specs.Conditions.{Name, same_name}
use Rattle.batch_recipe.specs.Expanding.{Binding}
use Rattle.batch_recipe.specs.Tree.{Place, Tree, skip}
use Rattle.batch_model.specs.Plant as Model
use Rattle.batch_model.specs.Events.{bound_by}
use Rattle.batch_model.specs.Plant.{Master, plain, Setup, BatchAct, Share, Plant, size_out_of_range}
use Rattle.batch_model.specs.Setups.{setup_of}
use Rattle.batch_verify.specs.ClearedSet.{ClearedSet}
use Rattle.batch_arbiter.specs.Allocation.{Claim, Allocation, line_of_asks}
use Rattle.batch_chart.specs.NodesOf.{place_at}
use Rattle.batch_chart.specs.Charts.{remains}
use Rattle.batch_chart.specs.Early.{in_advance}
use Rattle.batch_engine.specs.Names.{roles_taken}
use Rattle.batch_engine.specs.declared.batch.Batch.{Batch}

pub record EngineView : Type 0 where
  pub cleared : ClearedSet
  -- the batches, by rising number
  pub batches : List Batch
  pub next_number : ℕ
  pub allocation : Allocation

abbrev pub seen : ClearedSet → List Batch → ℕ → Allocation → EngineView
seen cleared batches next_number allocation =
    record { cleared = cleared; batches = batches; next_number = next_number; allocation = allocation }

-- the setup of the machine
abbrev pub setup : ClearedSet → Setup
setup c = setup_of c.cell c.recipes

abbrev pub no_recipe : Model.Recipe
no_recipe = record { name = []; formula = λ size. size_out_of_range; outputs = []; procedure = skip }

-- a master recipe, by its number
abbrev pub master_at : ClearedSet → ℕ → Master
master_at c k = slice_index_or (setup c).recipes k (plain no_recipe)

-- which unit takes which role of a recipe, by the numbers of the units
abbrev pub bound_to : ClearedSet → ℕ → List ℕ → Binding
bound_to c k units = bound_by (roles_taken c k units)

-- the control recipe that is made from a master recipe for these units
abbrev pub recipe_at : ClearedSet → ℕ → List ℕ → Model.Recipe
recipe_at c k units = (master_at c k).control (bound_to c k units)

-- its expanded tree
abbrev pub tree_at : ClearedSet → ℕ → List ℕ → Tree
tree_at c k units = (recipe_at c k units).procedure

-- the control recipe of a batch
abbrev pub recipe_made : ClearedSet → Batch → Model.Recipe
recipe_made c b = recipe_at c b.recipe b.units

-- its expanded tree
abbrev pub tree_of : ClearedSet → Batch → Tree
tree_of c b = (recipe_made c b).procedure

abbrev pub model_batch : ClearedSet → Batch → Model.Batch
model_batch c b =
    record {
      number = b.number;
      recipe = recipe_made c b;
      size = b.size;
      values = b.values;
      state = b.state;
      rest = remains (tree_of c b) b.running;
      in_advance = in_advance (tree_of c b) b.running.held.items;
    }

-- the place of a node of the batch with this number
abbrev pub place_in : ClearedSet → List Batch → ℕ → ℕ → Place
place_in c [] n k = []
place_in c (b ∷ bs) n k = elim (nat_eq b.number n) [ true ↦ place_at (tree_of c b) k | false ↦ place_in c bs n k ]

-- the act that a claim is for
abbrev pub claim_act : ClearedSet → List Batch → Claim → BatchAct
claim_act c bs x = (x.batch, place_in c bs x.batch x.node)

-- the share that a claim is for
abbrev pub share_of : ClearedSet → List Batch → Claim → Share
share_of c bs x = record { act = claim_act c bs x; units = x.units }

-- the shares of claims
abbrev pub claimed_shares : ClearedSet → List Batch → List Claim → List Share
claimed_shares c bs xs = map (share_of c bs) xs

-- the names of the resources, by their numbers
abbrev pub names_of : ClearedSet → List Name
names_of c = resources_of c.cell

-- the number of the resource of this name, if there is one
abbrev pub resource_number : ClearedSet → Name → Option ℕ
resource_number c name = position (same_name name) (names_of c)

-- the acts that wait for a resource, by its number, if it has one
abbrev pub line_at : EngineView → Option ℕ → List Share
line_at v None = []
line_at v (Some k) = claimed_shares v.cleared v.batches (line_of_asks v.allocation k)

abbrev pub line_in : EngineView → Name → List Share
line_in v name = line_at v (resource_number v.cleared name)

abbrev pub plant_of : EngineView → Plant
plant_of v = record { batches = map (model_batch v.cleared) v.batches; next_number = v.next_number; line = line_in v }
