-- trusted: the nodes of an expanded tree, by number.
use Rattle.std.specs.Prelude.{ℕ, ◌+◌, max, List, [], ◌∷◌, length, Option, Some, None, slice_index_or}
use Rattle.batch_recipe.specs.Conditions.{Name}
use Rattle.batch_recipe.specs.declared.need.Need.{Need}
use Rattle.batch_recipe.specs.Tree.{Place, Step, Phase, Task, runs, follows, Tree, act, skip, seq, par, sel, loop, Trees, no_trees, tree, Choices, otherwise, choice}
use Rattle.batch_recipe.specs.Nodes.{Node, nodes}

abbrev pub nodes_of : Tree → List Node
nodes_of t = nodes (0 ∷ []) [] t

abbrev pub node_at : Tree → ℕ → Node
node_at t k = slice_index_or (nodes_of t) k (record { place = []; asked = []; here = skip })

abbrev pub place_at : Tree → ℕ → Place
place_at t k = (node_at t k).place

abbrev pub no_step : Step
no_step = record { place = []; needs = []; reserves = [] }

abbrev pub no_phase : Phase
no_phase = record { unit = []; name = []; handed = []; reports = [] }

-- the step and the task of an act
abbrev pub tree_step : Tree → Step
tree_step (act s w) = s
tree_step _ = no_step

abbrev pub tree_task : Tree → Task
tree_task (act s w) = w
tree_task _ = runs no_phase

abbrev pub phase_in : Task → Phase
phase_in (runs p) = p
phase_in (follows name c) = no_phase

abbrev pub name_in : Task → Name
name_in (runs p) = []
name_in (follows name c) = name

abbrev pub step_at : Tree → ℕ → Step
step_at t k = tree_step (node_at t k).here

abbrev pub task_at : Tree → ℕ → Task
task_at t k = tree_task (node_at t k).here

abbrev pub no_need : Need
no_need = record { resource = []; units = 0 }

-- need i of an act
abbrev pub need_at : Tree → ℕ → ℕ → Need
need_at t k i = slice_index_or (step_at t k).needs i no_need

abbrev pub phase_at : Tree → ℕ → Phase
phase_at t k = phase_in (task_at t k)

abbrev pub task_name_at : Tree → ℕ → Name
task_name_at t k = name_in (task_at t k)

-- the names of unit and phase of a phase step
abbrev pub phase_names : Task → Option (Name × Name)
phase_names (runs p) = Some (p.unit, p.name)
phase_names (follows name c) = None

abbrev pub phase_named : Tree → Option (Name × Name)
phase_named (act s w) = phase_names w
phase_named _ = None

-- how many needs an act has itself
abbrev pub own_needs : Step → Task → ℕ
own_needs s w = length s.needs

-- how many units are held in advance for an act: one at most for an act with a chart
abbrev pub own_units : Step → Task → ℕ
own_units s (runs p) = 0
own_units s (follows name c) = 1

-- how much the acts reached at once have together at most, by the amount `own` of each: a `seq` or `sel` reaches one branch at a time,
-- a `par` all
abbrev mutual
  pub most_by : (Step → Task → ℕ) → Tree → ℕ
  most_by own (act s w) = own s w + most_below own w
  most_by own skip = 0
  most_by own (seq ts) = most_of_one own ts
  most_by own (par ts) = most_of_all own ts
  most_by own (sel ch) = most_of_chosen own ch
  most_by own (loop n c body) = most_by own body

  pub most_below : (Step → Task → ℕ) → Task → ℕ
  most_below own (runs p) = 0
  most_below own (follows name c) = most_by own c

  pub most_of_one : (Step → Task → ℕ) → Trees → ℕ
  most_of_one own no_trees = 0
  most_of_one own (tree c ts) = max (most_by own c) (most_of_one own ts)

  pub most_of_all : (Step → Task → ℕ) → Trees → ℕ
  most_of_all own no_trees = 0
  most_of_all own (tree c ts) = most_by own c + most_of_all own ts

  pub most_of_chosen : (Step → Task → ℕ) → Choices → ℕ
  most_of_chosen own (otherwise c) = most_by own c
  most_of_chosen own (choice p c ch) = max (most_by own c) (most_of_chosen own ch)

-- how many needs a batch of the tree can hold and ask for at once, those that are held in advance among them
abbrev pub needs_in : Tree → ℕ
needs_in t = most_by own_needs t + most_by own_units t
