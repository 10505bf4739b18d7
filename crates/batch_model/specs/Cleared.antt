-- trusted: clearance: the rules that recipes must meet, by a ranking of a cell's resources, so that their batches can run safely.
use Rattle.std.specs.Prelude.{◌≡◌, ℕ, ◌+◌, ◌<◌, ◌≤◌, List, [], ◌∷◌, ◌++◌, length, map, Bool, true, false, ◌&&◌, ◌||◌, IsTrue, ⊤, Some}
use Rattle.batch_recipe.specs.Conditions.{Name, same_name}
use Rattle.batch_recipe.specs.Tree.{Place, Phase, Tree, act, skip, seq, par, sel, loop, Task, runs, follows, Trees, no_trees, tree, Choices, otherwise, choice}
use Rattle.batch_recipe.specs.Nodes.{Node, node, child, needs_of, reserves_of}
use Rattle.batch_recipe.specs.Following.{follower}
pub use Rattle.batch_recipe.specs.Levels.{Level, is_procedure, in_procedure, in_unit_procedure, in_operation, below}
use Rattle.batch_recipe.specs.WellFormed.{is_among, are_distinct}
use Rattle.batch_recipe.specs.Needs.{resources_needed}
use Rattle.batch_recipe.specs.declared.need.Need.{Need}
use Rattle.batch_model.specs.Lists.{Each}
use Rattle.batch_recipe.specs.Expanding.{Binding}
use Rattle.batch_model.specs.Plant.{Recipe, Master, Setup}
use Rattle.batch_model.specs.declared.limits.TheConstants.{MAX_RECIPES}

abbrev pub Ranking : Type 0
Ranking = Name → ℕ

-- Nodes and the levels of the procedural model

-- a node and its level
pub record Part : Type 0 where
  pub level : Level
  pub node : Node

abbrev pub part : Level → Place → List Name → Tree → Part
part level place above chart = record { level = level; node = node place above chart }

-- the nodes of a tree, as `nodes` lists them, with their levels
abbrev mutual
  pub parts : Level → Place → List Name → Tree → List Part
  parts level place above (act step task) =
      part level place above (act step task) ∷ parts_within (below level) place (above ++ resources_needed step.needs) task
  parts level place above skip = part level place above skip ∷ []
  parts level place above (seq charts) = part level place above (seq charts) ∷ parts_of_each level place above 0 charts
  parts level place above (par charts) = part level place above (par charts) ∷ parts_of_each level place above 0 charts
  parts level place above (sel choices) = part level place above (sel choices) ∷ parts_of_choices level place above 0 choices
  parts level place above (loop turns until body) = part level place above (loop turns until body) ∷ parts level (child place 0) above body

  pub parts_within : Level → Place → List Name → Task → List Part
  parts_within level place above (runs phase) = []
  parts_within level place above (follows name chart) = parts level (child place 0) above chart

  pub parts_of_each : Level → Place → List Name → ℕ → Trees → List Part
  parts_of_each level place above child_number no_trees = []
  parts_of_each level place above child_number (tree chart charts) =
      parts level (child place child_number) above chart ++ parts_of_each level place above (child_number + 1) charts

  pub parts_of_choices : Level → Place → List Name → ℕ → Choices → List Part
  parts_of_choices level place above child_number (otherwise chart) = parts level (child place child_number) above chart
  parts_of_choices level place above child_number (choice condition chart choices) =
      parts level (child place child_number) above chart ++ parts_of_choices level place above (child_number + 1) choices

abbrev pub procedure_parts : Recipe → List Part
procedure_parts recipe = parts is_procedure (0 ∷ []) [] recipe.procedure

-- Phases

-- the phases that the steps of a tree run, in the order of their places
abbrev mutual
  pub phases : Tree → List Phase
  phases (act step task) = phases_within task
  phases skip = []
  phases (seq charts) = phases_of_each charts
  phases (par charts) = phases_of_each charts
  phases (sel choices) = phases_of_choices choices
  phases (loop turns until body) = phases body

  pub phases_within : Task → List Phase
  phases_within (runs phase) = phase ∷ []
  phases_within (follows name chart) = phases chart

  pub phases_of_each : Trees → List Phase
  phases_of_each no_trees = []
  phases_of_each (tree chart charts) = phases chart ++ phases_of_each charts

  pub phases_of_choices : Choices → List Phase
  phases_of_choices (otherwise chart) = phases chart
  phases_of_choices (choice condition chart choices) = phases chart ++ phases_of_choices choices

-- no step of the one branch runs the same phase as a step of the other
abbrev pub RunApart : List Phase → List Phase → Type 0
RunApart ones others = Each (λ one. Each (λ other. same_name one.name other.name ≡ false) others) ones

-- no two branches have steps that run the same phase
abbrev pub BranchesRunApart : Trees → Type 0
BranchesRunApart no_trees = ⊤
BranchesRunApart (tree chart charts) = RunApart (phases chart) (phases_of_each charts) × BranchesRunApart charts

-- every way through the tree runs a phase
abbrev mutual
  pub surely_runs : Tree → Bool
  surely_runs (act step task) = task_surely_runs task
  surely_runs skip = false
  surely_runs (seq charts) = some_surely_runs charts
  surely_runs (par charts) = some_surely_runs charts
  surely_runs (sel choices) = each_surely_runs choices
  surely_runs (loop turns until body) = surely_runs body

  pub task_surely_runs : Task → Bool
  task_surely_runs (runs phase) = true
  task_surely_runs (follows name chart) = surely_runs chart

  pub some_surely_runs : Trees → Bool
  some_surely_runs no_trees = false
  some_surely_runs (tree chart charts) = surely_runs chart || some_surely_runs charts

  pub each_surely_runs : Choices → Bool
  each_surely_runs (otherwise chart) = surely_runs chart
  each_surely_runs (choice condition chart choices) = surely_runs chart && each_surely_runs choices

-- The rules

-- each need is of one of these resources
abbrev pub NeedsResources : List Name → Tree → Type 0
NeedsResources resources chart = Each (λ need. IsTrue (is_among resources need.resource)) (needs_of chart)

-- each need is of no more units than the resource has
abbrev pub NeedsWithinCapacity : Setup → Tree → Type 0
NeedsWithinCapacity setup chart = Each (λ need. need.units ≤ setup.capacity need.resource) (needs_of chart)

abbrev pub BeginsWithUnit : List Name → List Need → Type 0
BeginsWithUnit units [] = ⊥
BeginsWithUnit units (own ∷ needs) = IsTrue (is_among units own.resource)

-- the unit of a unit procedure, its first need, is one of these units
abbrev pub HasUnit : List Name → Level → Tree → Type 0
HasUnit units in_procedure (act step task) = BeginsWithUnit units step.needs
HasUnit units _ _ = ⊤

-- the phase that a phase step runs is offered by the unit of its unit procedure
abbrev pub IsOffered : Setup → Tree → Type 0
IsOffered setup (act step (runs phase)) = IsTrue (setup.offers phase.unit phase.name)
IsOffered setup _ = ⊤

-- no two branches of a `par` in an operation have steps that run the same phase
abbrev pub IsApart : Level → Tree → Type 0
IsApart in_operation (par charts) = BranchesRunApart charts
IsApart _ _ = ⊤

-- every way through the body of a loop runs a phase
abbrev pub TurnsRun : Tree → Type 0
TurnsRun (loop turns until body) = IsTrue (surely_runs body)
TurnsRun _ = ⊤

-- the ranks of the names rise strictly
abbrev pub RiseStrictly : Ranking → List Name → Type 0
RiseStrictly rank [] = ⊤
RiseStrictly rank (resource ∷ []) = ⊤
RiseStrictly rank (resource ∷ following ∷ more) = (rank resource < rank following) × RiseStrictly rank (following ∷ more)

-- a node meets the rules
pub record IsClear (setup : Setup) (rank : Ranking) (this_part : Part) : Type 0 where
  pub known : NeedsResources setup.resources this_part.node.here
  pub on_unit : HasUnit setup.units this_part.level this_part.node.here
  pub within : NeedsWithinCapacity setup this_part.node.here
  pub offered : IsOffered setup this_part.node.here
  pub apart : IsApart this_part.level this_part.node.here
  pub turning : TurnsRun this_part.node.here
  -- along the path from the root, in the order in which the needs are asked for
  pub rising : RiseStrictly rank this_part.node.asked

-- each unit procedure that the act at a node reserves follows the node
abbrev pub ReservesFollow : Tree → Node → Type 0
ReservesFollow procedure at =
    Each (λ reserve. (place : Place) × (follower procedure at.place reserve.name ≡ Some place)) (reserves_of at.here)

-- each role that the tree names has a unit that may take it
abbrev pub HasCandidates : Master → Type 0
HasCandidates master = Each (λ role. IsTrue (master.names_role role.name) → (unit : Name) × IsTrue (is_among role.candidates unit)) master.roles

-- each role that the tree names is taken by a unit that may take it
abbrev pub IsServed : Master → Binding → Type 0
IsServed master bound = Each (λ role. IsTrue (master.names_role role.name) → IsTrue (is_among role.candidates (bound role.name))) master.roles

-- each node of the control recipe meets the rules
pub record IsClearedControl (setup : Setup) (rank : Ranking) (recipe : Recipe) : Type 0 where
  pub clear : Each (IsClear setup rank) (procedure_parts recipe)
  pub follow : Each (λ this_part. ReservesFollow recipe.procedure this_part.node) (procedure_parts recipe)

-- the ranking clears the recipe, whatever units take its roles
abbrev pub IsClearedRecipe : Setup → Ranking → Master → Type 0
IsClearedRecipe setup rank master =
    HasCandidates master × ((bound : Binding) → IsServed master bound → IsClearedControl setup rank (master.control bound))

-- the ranking clears the recipes for the cell
pub record IsCleared (setup : Setup) (rank : Ranking) : Type 0 where
  pub names_differ : IsTrue (are_distinct (map (λ recipe. recipe.name) setup.recipes))
  pub few : length setup.recipes ≤ MAX_RECIPES
  pub recipes : Each (IsClearedRecipe setup rank) setup.recipes

-- some ranking clears the recipes
abbrev pub CanBeCleared : Setup → Type 0
CanBeCleared setup = (rank : Ranking) × IsCleared setup rank
