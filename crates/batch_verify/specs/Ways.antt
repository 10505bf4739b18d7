-- private: the levels and units of the nodes of a recipe's expanded tree, by number.
use Rattle.std.specs.Prelude.{List, [], ◌∷◌, ◌++◌}
use Rattle.batch_recipe.specs.Conditions.{Name}
use Rattle.batch_recipe.specs.Expanding.{Binding}
use Rattle.batch_recipe.specs.Procedure.{bound_tree}
use Rattle.batch_recipe.specs.Tree.{Step, Tree, act, skip, seq, par, sel, loop, Task, runs, follows, Trees, no_trees, tree, Choices, otherwise, choice}
use Rattle.batch_recipe.specs.declared.acts.Acts.{Acts}
use Rattle.batch_recipe.specs.declared.need.Need.{Need}
use Rattle.batch_model.specs.Cleared.{Level, is_procedure, in_procedure, in_unit_procedure, in_operation, below, Part, parts}

-- a level, and the unit on which a node there runs
pub record Spot : Type 0 where
  pub level : Level
  pub unit : Name

-- the needs of a unit procedure begin with its unit
abbrev pub unit_asked : Name → List Need → Name
unit_asked unit [] = unit
unit_asked unit (own ∷ needs) = own.resource

abbrev pub unit_within : Level → Name → List Need → Name
unit_within is_procedure unit needs = unit
unit_within in_procedure unit needs = unit_asked unit needs
unit_within in_unit_procedure unit needs = unit
unit_within in_operation unit needs = unit

-- the spot of the chart of an act
abbrev pub spot_within : Spot → Step → Spot
spot_within spot step = record { level = below spot.level; unit = unit_within spot.level spot.unit step.needs }

abbrev pub spot_below : Spot → Tree → Spot
spot_below spot (act step task) = spot_within spot step
spot_below spot skip = spot
spot_below spot (seq charts) = spot
spot_below spot (par charts) = spot
spot_below spot (sel choices) = spot
spot_below spot (loop turns until body) = spot

-- the spot of a node, and that of the nodes below it
pub record Way : Type 0 where
  pub here : Spot
  pub under : Spot

abbrev pub way : Spot → Tree → Way
way spot chart = record { here = spot; under = spot_below spot chart }

-- the nodes of a tree, as `nodes` lists them
abbrev mutual
  pub ways : Spot → Tree → List Way
  ways spot (act step task) = way spot (act step task) ∷ ways_within (spot_within spot step) task
  ways spot skip = way spot skip ∷ []
  ways spot (seq charts) = way spot (seq charts) ∷ ways_of_each spot charts
  ways spot (par charts) = way spot (par charts) ∷ ways_of_each spot charts
  ways spot (sel choices) = way spot (sel choices) ∷ ways_of_choices spot choices
  ways spot (loop turns until body) = way spot (loop turns until body) ∷ ways spot body

  pub ways_within : Spot → Task → List Way
  ways_within spot (runs phase) = []
  ways_within spot (follows name chart) = ways spot chart

  pub ways_of_each : Spot → Trees → List Way
  ways_of_each spot no_trees = []
  ways_of_each spot (tree chart charts) = ways spot chart ++ ways_of_each spot charts

  pub ways_of_choices : Spot → Choices → List Way
  ways_of_choices spot (otherwise chart) = ways spot chart
  ways_of_choices spot (choice condition chart choices) = ways spot chart ++ ways_of_choices spot choices

-- the procedure runs on no unit
abbrev pub top : Spot
top = record { level = is_procedure; unit = [] }

abbrev pub bound_ways : Binding → Acts → List Way
bound_ways bound acts = ways top (bound_tree bound acts)

-- the nodes with their levels
abbrev pub bound_parts : Binding → Acts → List Part
bound_parts bound acts = parts is_procedure (0 ∷ []) [] (bound_tree bound acts)
