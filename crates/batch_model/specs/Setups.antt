-- trusted: the setup of the machine that a cell and recipes stand for.
use Rattle.std.specs.Prelude.{ℕ, List, [], ◌∷◌, ◌++◌, map, Bool, false, ◌||◌, Option, Some, None, option_and_then, position}
use Rattle.std.specs.List.{slice_index_or, list_any}
use Rattle.batch_cell.specs.Equipment.{unit_phases}
use Rattle.batch_cell.specs.LookUps.{units_of, units_of_class, resources_of, capacities_of}
use Rattle.batch_cell.specs.declared.cell.Cell as equipment
use Rattle.batch_recipe.specs.ActsAtNodes.{procedure_acts}
use Rattle.batch_recipe.specs.Conditions.{Name, same_name}
use Rattle.batch_recipe.specs.WellFormed.{is_among}
use Rattle.batch_recipe.specs.Diagram.{Diagram, label, skip, seq, par, sel, loop, Diagrams, none, more, Cases, otherwise, when, diagram_of}
use Rattle.batch_recipe.specs.Expanding.{act_named}
use Rattle.batch_recipe.specs.declared.act.Act.{Act}
use Rattle.batch_recipe.specs.declared.act.UnitChoice.TheVariants.{Unit, Role}
use Rattle.batch_recipe.specs.declared.act.Work.TheVariants.{Follows, Runs}
use Rattle.batch_recipe.specs.declared.recipe.Recipe as document
use Rattle.batch_model.specs.Plant.{Master, Setup}
use Rattle.batch_model.specs.Recipes.{recipe_of}
use Rattle.batch_model.specs.declared.limits.TheConstants.{MAX_LIVE_BATCHES}

-- the number of units of the resource with this name that may be held at once; 0 if the cell has no resource of that name
abbrev pub capacity_of : equipment.Cell → Name → ℕ
capacity_of cell name =
    elim (position (same_name name) (resources_of cell)) [ None ↦ 0 | Some index ↦ slice_index_or (capacities_of cell) index 0 ]

-- the labels of a chart
abbrev mutual
  pub labels : Diagram → List Name
  labels (label name) = name ∷ []
  labels skip = []
  labels (seq charts) = labels_of_each charts
  labels (par charts) = labels_of_each charts
  labels (sel cases) = labels_of_cases cases
  labels (loop turns until body) = labels body

  pub labels_of_each : Diagrams → List Name
  labels_of_each none = []
  labels_of_each (more chart charts) = labels chart ++ labels_of_each charts

  pub labels_of_cases : Cases → List Name
  labels_of_cases (otherwise chart) = labels chart
  labels_of_cases (when condition chart cases) = labels chart ++ labels_of_cases cases

-- the labels of an act's chart
abbrev pub labels_of : Act → List Name
labels_of act = elim act.work [ Follows chart ↦ labels (diagram_of chart) | Runs phase values reports ↦ [] ]

-- the role of a unit procedure, if it has one
abbrev pub role_of : Act → Option Name
role_of act = elim act.unit [ None ↦ None | Some choice ↦ elim choice [ Unit unit ↦ None | Role role ↦ Some role ] ]

-- some unit procedure of the table that the labels name has the role
abbrev pub name_role : List Act → List Name → Name → Bool
name_role table names role =
    list_any (λ name. elim (option_and_then role_of (act_named table name)) [ None ↦ false | Some own ↦ same_name own role ]) names

-- some act of these reserves a unit procedure of the table that has the role
abbrev pub reserve_role : List Act → List (Option Act) → Name → Bool
reserve_role table acts role = list_any (λ found. elim found [ None ↦ false | Some a ↦ name_role table a.reserves.items role ]) acts

-- the units of its class may take a role
abbrev pub master_of : equipment.Cell → document.Recipe → Master
master_of cell recipe = record {
  name = recipe.acts.procedure.name;
  roles = map (λ role. record { name = role.name; candidates = units_of_class cell role.class }) recipe.roles.items;
  names_role = λ role.
      name_role recipe.acts.unit_procedures.items (labels_of recipe.acts.procedure) role
      || reserve_role recipe.acts.unit_procedures.items (procedure_acts recipe.acts) role;
  control = recipe_of recipe;
}

abbrev pub setup_of : equipment.Cell → List document.Recipe → Setup
setup_of cell recipes = record {
  units = units_of cell;
  resources = resources_of cell;
  capacity = capacity_of cell;
  offers = λ unit phase. is_among (unit_phases cell.modules.items unit) phase;
  recipes = map (master_of cell) recipes;
  batch_limit = MAX_LIVE_BATCHES;
}
