-- surface: the numbers of the resources, units and phases that a recipe's acts name in a cell.
use Rattle.std.specs.Prelude.{◌≡◌, ℕ, ◌+◌, List, [], ◌∷◌, ◌++◌, flat_map, length, map, Option, Some, None, position, slice_get, Vec, true, false, nat_eq}
use Rattle.std.specs.Global.{Global}
use Rattle.std.specs.Cmp.Lexicographic.{pointwise}
use Rattle.indexmap.specs.IndexSet.{insert_all}
use Rattle.batch_cell.specs.LookUps.{resources_of, phases_of, is_of_class}
use Rattle.batch_cell.specs.declared.cell.Cell.{Cell}
use Rattle.batch_cell.specs.declared.module.Module.{Module}
use Rattle.batch_cell.specs.declared.unit.Unit as device
use Rattle.batch_recipe.specs.Conditions.{Name, same_name}
use Rattle.batch_recipe.specs.Expanding.{act_named}
use Rattle.batch_recipe.specs.declared.act.Act.{Act}
use Rattle.batch_recipe.specs.declared.act.UnitChoice.{UnitChoice}
use Rattle.batch_recipe.specs.declared.act.UnitChoice.TheVariants as Choice
use Rattle.batch_recipe.specs.declared.act.Work.{Work}
use Rattle.batch_recipe.specs.declared.act.Work.TheVariants.{Follows, Runs}
use Rattle.batch_recipe.specs.declared.need.Need.{Need}
use Rattle.batch_recipe.specs.declared.recipe.Recipe as document
use Rattle.batch_recipe.specs.declared.role.Role as declared
use Rattle.batch_set.specs.declared.cell_phases.CellPhases.{CellPhases}
use Rattle.batch_set.specs.declared.linked.LinkedNeed.{LinkedNeed}
use Rattle.batch_set.specs.declared.linked.LinkedRecipe.{LinkedRecipe}
use Rattle.batch_set.specs.declared.linked_set.LinkedSet.{LinkedSet}
use Rattle.batch_set.specs.declared.linked.Source.{Source}
use Rattle.batch_set.specs.declared.linked.Source.TheVariants.{Resource, Role, Unknown}

-- Names

abbrev pub resource_found : Option ℕ → Source
resource_found None = Unknown
resource_found (Some number) = Resource number

abbrev pub role_found : Option ℕ → Source
role_found None = Unknown
role_found (Some number) = Role number

-- the resource with this name
abbrev pub named : Cell → Name → Source
named cell name = resource_found (position (same_name name) (resources_of cell))

-- the unit that takes the role with this name
abbrev pub by_role : List declared.Role → Name → Source
by_role roles name = role_found (position (λ role. same_name name role.name) roles)

-- the resource of the unit's name, or the role
abbrev pub chosen_source : Cell → document.Recipe → UnitChoice → Source
chosen_source cell recipe (Choice.Unit name) = named cell name
chosen_source cell recipe (Choice.Role name) = by_role recipe.roles.items name

abbrev pub unit_source : Cell → document.Recipe → Option UnitChoice → Source
unit_source cell recipe None = Unknown
unit_source cell recipe (Some choice) = chosen_source cell recipe choice

abbrev pub unit_found : Cell → document.Recipe → Option Act → Source
unit_found cell recipe None = Unknown
unit_found cell recipe (Some a) = unit_source cell recipe a.unit

-- the unit of the unit procedure with this name
abbrev pub reserved : Cell → document.Recipe → Name → Source
reserved cell recipe name = unit_found cell recipe (act_named recipe.acts.unit_procedures.items name)

-- Needs

abbrev pub one_unit_linked : Source → LinkedNeed
one_unit_linked source = record { source = source; units = 1 }

-- one unit of the unit that is chosen, if one is
abbrev pub unit_needs : Cell → document.Recipe → Option UnitChoice → List LinkedNeed
unit_needs cell recipe None = []
unit_needs cell recipe (Some choice) = one_unit_linked (chosen_source cell recipe choice) ∷ []

abbrev pub reserved_need : Cell → document.Recipe → Name → LinkedNeed
reserved_need cell recipe name = one_unit_linked (reserved cell recipe name)

abbrev pub need_linked : Cell → Need → LinkedNeed
need_linked cell need = record { source = named cell need.resource; units = need.units }

-- all needs of an act: its unit, the units that it reserves, and its other needs
abbrev pub needs_linked : Cell → document.Recipe → Act → List LinkedNeed
needs_linked cell recipe a = (unit_needs cell recipe a.unit ++ map (reserved_need cell recipe) a.reserves.items) ++ map (need_linked cell) a.needs.items

-- Roles

-- the numbers of the units of a class, where the first of them has this number
abbrev pub numbers_from : Name → ℕ → List device.Unit → List ℕ
numbers_from class number [] = []
numbers_from class number (unit ∷ units) =
    elim (is_of_class class unit) [ true ↦ number ∷ numbers_from class (number + 1) units | false ↦ numbers_from class (number + 1) units ]

-- the numbers of the units that may take a role
abbrev pub candidate_numbers : Cell → declared.Role → List ℕ
candidate_numbers cell role = numbers_from role.class 0 cell.units.items

-- Phases

abbrev pub phases_in : Module → List Name
phases_in m = m.phases.items

-- the names of a cell's phases, each once
abbrev pub cell_phase_names : Cell → List Name
cell_phase_names cell = insert_all (pointwise nat_eq) [] (flat_map phases_in cell.modules.items)

-- the number of a phase among those that each unit offers, where the first of them has this number
abbrev pub numbers_on_each : Cell → Name → ℕ → List device.Unit → List (Option ℕ)
numbers_on_each cell phase number [] = []
numbers_on_each cell phase number (unit ∷ units) = position (same_name phase) (phases_of cell number) ∷ numbers_on_each cell phase (number + 1) units

abbrev pub numbers_on : Cell → Name → List (Option ℕ)
numbers_on cell phase = numbers_on_each cell phase 0 cell.units.items

-- the phase that an act runs
abbrev pub run_phase : Work → Option Name
run_phase (Follows chart) = None
run_phase (Runs phase values reports) = Some phase

-- its number among these names
abbrev pub run_of : List Name → Work → Option ℕ
run_of names (Follows chart) = None
run_of names (Runs phase values reports) = position (same_name phase) names

-- the number among these names of the phase that the act runs, if it runs one of them
abbrev pub run_phase_number : List Name → Act → Option ℕ
run_phase_number names a = run_of names a.work

-- Recipes

abbrev pub table_items : {X : Type 0} → List (Vec X Global) → List (List X)
table_items table = map (λ row. row.items) table

-- the phases of the cell, with their numbers on its units
pub record ArePhasesOf (cell : Cell) (phases : CellPhases) : Type 0 where
  pub names : phases.names.keys ≡ cell_phase_names cell
  pub numbers : table_items phases.numbers.items ≡ map (numbers_on cell) phases.names.keys

-- a recipe by number: the needs of its acts, the units that may take its roles, and the phases of the cell that its phase steps run
pub record IsLinked (cell : Cell) (known : CellPhases) (recipe : document.Recipe) (linked : LinkedRecipe) : Type 0 where
  pub procedure : linked.procedure.items ≡ needs_linked cell recipe recipe.acts.procedure
  pub unit_procedures : table_items linked.unit_procedures.items ≡ map (needs_linked cell recipe) recipe.acts.unit_procedures.items
  pub operations : table_items linked.operations.items ≡ map (needs_linked cell recipe) recipe.acts.operations.items
  pub phases : table_items linked.phases.items ≡ map (needs_linked cell recipe) recipe.acts.phases.items
  pub candidates : table_items linked.candidates.items ≡ map (candidate_numbers cell) recipe.roles.items
  pub runs : linked.runs.items ≡ map (run_phase_number known.names.keys) recipe.acts.phases.items

-- the recipe is linked in the cell, by some numbers of phases
abbrev pub IsLinkedIn : Cell → document.Recipe → LinkedRecipe → Type 0
IsLinkedIn cell recipe linked = (known : CellPhases) × IsLinked cell known recipe linked

-- each recipe is linked, in their order
pub record AreLinked (cell : Cell) (known : CellPhases) (recipes : List document.Recipe) (linked : List LinkedRecipe) : Type 0 where
  pub count : length linked ≡ length recipes
  pub each : (k : ℕ) (own : LinkedRecipe) → slice_get linked k ≡ Some own → (recipe : document.Recipe) → slice_get recipes k ≡ Some recipe → IsLinked cell known recipe own

-- the recipes of a set, and the phases of their cell
pub record IsLinkedSet (cell : Cell) (recipes : List document.Recipe) (set : LinkedSet) : Type 0 where
  pub phases : ArePhasesOf cell set.phases
  pub linked : AreLinked cell set.phases recipes set.recipes.items
