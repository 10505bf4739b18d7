-- trusted: the names and places of the numbers in replies and moves. A number that names nothing has the empty name, and no place.
use Rattle.std.specs.Prelude.{ℕ, List, [], map, Option, Some, None, slice_get, unwrap_or, option_map, length, nat_lt, if◌then◌else◌}
use Rattle.std.specs.List.{zip}
use Rattle.batch_cell.specs.LookUps.{units_of, resources_of, phases_of}
use Rattle.batch_recipe.specs.Conditions.{Name}
use Rattle.batch_recipe.specs.Formula.{quantities_of}
use Rattle.batch_recipe.specs.Nodes.{Node, reports_of}
use Rattle.batch_recipe.specs.Procedure.{procedure_nodes}
use Rattle.batch_recipe.specs.Tree.{Place, Phase, runs, follows, Tree, act}
use Rattle.batch_recipe.specs.declared.need.Need.{Need}
use Rattle.batch_recipe.specs.declared.quantity.Quantity.{Quantity}
use Rattle.batch_recipe.specs.declared.recipe.Recipe.{Recipe}
use Rattle.batch_verify.specs.ClearedSet.{ClearedSet}

-- units are the first resources, with the same numbers
abbrev pub resource_name : ClearedSet → ℕ → Name
resource_name c resource = unwrap_or (slice_get (resources_of c.cell) resource) []

-- so many units of the resource with this number
abbrev pub need_of : ClearedSet → ℕ → ℕ → Need
need_of c resource units = record { resource = resource_name c resource; units = units }

-- a phase by its number among those that the unit offers
abbrev pub phase_name : ClearedSet → ℕ → ℕ → Name
phase_name c unit phase =
    if nat_lt unit (length (units_of c.cell)) then unwrap_or (slice_get (phases_of c.cell unit) phase) [] else []

abbrev pub name_of_recipe : Recipe → Name
name_of_recipe r = r.acts.procedure.name

abbrev pub recipe_name : ClearedSet → ℕ → Name
recipe_name c recipe = unwrap_or (option_map name_of_recipe (slice_get c.recipes recipe)) []

abbrev pub quantity_name : Quantity → Name
quantity_name q = q.name

-- a value by its number among the inputs and then the parameters
abbrev pub name_of_value : ℕ → Recipe → Name
name_of_value value r = unwrap_or (option_map quantity_name (slice_get (quantities_of r) value)) []

abbrev pub value_name : ClearedSet → ℕ → ℕ → Name
value_name c recipe value = unwrap_or (option_map (name_of_value value) (slice_get c.recipes recipe)) []

-- the names of a recipe's roles
abbrev pub roles_of : Recipe → List Name
roles_of r = map (λ role. role.name) r.roles.items

abbrev pub roles_at : ClearedSet → ℕ → List Name
roles_at c recipe = elim (slice_get c.recipes recipe) [ None ↦ [] | Some r ↦ roles_of r ]

-- each role of a recipe with the unit that takes it, the units by their numbers; numbers beyond the roles are left out
abbrev pub roles_taken : ClearedSet → ℕ → List ℕ → List (Name × Name)
roles_taken c recipe units = zip (roles_at c recipe) (map (resource_name c) units)

-- Nodes

abbrev pub node_of : ℕ → Recipe → Option Node
node_of node r = slice_get (procedure_nodes r.acts) node

abbrev pub recipe_node_at : ClearedSet → ℕ → ℕ → Option Node
recipe_node_at c recipe node = elim (slice_get c.recipes recipe) [ None ↦ None | Some r ↦ node_of node r ]

abbrev pub node_place : Option Node → Place
node_place None = []
node_place (Some at) = at.place

abbrev pub recipe_place_at : ClearedSet → ℕ → ℕ → Place
recipe_place_at c recipe node = node_place (recipe_node_at c recipe node)

-- the name of an act that is no phase step
abbrev pub chart_act_name : Tree → Name
chart_act_name (act s (follows name t)) = name
chart_act_name _ = []

abbrev pub name_of : Option Node → Name
name_of None = []
name_of (Some at) = chart_act_name at.here

abbrev pub chart_act_name_at : ClearedSet → ℕ → ℕ → Name
chart_act_name_at c recipe node = name_of (recipe_node_at c recipe node)

-- the names of the values that the phase of a phase step is handed
abbrev pub handed_in : Tree → List Name
handed_in (act s (runs phase)) = phase.handed
handed_in _ = []

abbrev pub handed_of : Option Node → List Name
handed_of None = []
handed_of (Some at) = handed_in at.here

abbrev pub handed_at : ClearedSet → ℕ → ℕ → List Name
handed_at c recipe node = handed_of (recipe_node_at c recipe node)

-- the names of the outputs that it reports once it is done
abbrev pub reports_at : ClearedSet → ℕ → ℕ → List Name
reports_at c recipe node = reports_of (recipe_node_at c recipe node)

-- one of these, by its number among them
abbrev pub output_name : ClearedSet → ℕ → ℕ → ℕ → Name
output_name c recipe node output = unwrap_or (slice_get (reports_at c recipe node) output) []

-- a phase of a unit, as the phase step at a node runs it
abbrev pub phase_run_at : ClearedSet → ℕ → ℕ → ℕ → ℕ → Phase
phase_run_at c recipe node unit phase =
    record { unit = resource_name c unit; name = phase_name c unit phase; handed = handed_at c recipe node; reports = reports_at c recipe node }
