-- trusted: the state that each act of a batch shows.
use Rattle.std.specs.Prelude.{ℕ, List, [], ◌∷◌, ◌++◌, find, true, false, Option, Some, None, nat_lt}
use Rattle.batch_matrix.specs.declared.state.State.{State}
use Rattle.batch_matrix.specs.declared.state.State.TheVariants.{Idle, Running, Pausing, Paused, Holding, Held, Restarting, Stopping, Stopped, Aborting, Aborted, Complete}
use Rattle.batch_recipe.specs.Tree.{Place, Step, Task, runs, follows, Tree, act, skip, seq, par, sel, loop, Trees, no_trees, tree, Choices, otherwise, choice}
use Rattle.batch_model.specs.Rest.{same_place, Rest, open_act, live, acts, place_of}
use Rattle.batch_model.specs.Plant.{Batch, Plant, batch_at, phase_states}

-- all acts of an expanded tree, in the order of their places
abbrev mutual
  pub steps : Tree → List Step
  steps (act step task) = step ∷ steps_below task
  steps skip = []
  steps (seq charts) = steps_of_each charts
  steps (par charts) = steps_of_each charts
  steps (sel choices) = steps_of_choices choices
  steps (loop turns until body) = steps body

  pub steps_below : Task → List Step
  steps_below (runs phase) = []
  steps_below (follows name chart) = steps chart

  pub steps_of_each : Trees → List Step
  steps_of_each no_trees = []
  steps_of_each (tree chart charts) = steps chart ++ steps_of_each charts

  pub steps_of_choices : Choices → List Step
  steps_of_choices (otherwise chart) = steps chart
  steps_of_choices (choice condition chart choices) = steps chart ++ steps_of_choices choices

-- the position of a state in the order of gravity, the gravest first: an open act shows the gravest state of its live phases
abbrev pub gravity : State → ℕ
gravity Aborting = 1
gravity Stopping = 2
gravity Holding = 3
gravity Restarting = 4
gravity Pausing = 5
gravity Held = 6
gravity Paused = 7
gravity Running = 8
gravity Idle = 9
gravity Stopped = 9
gravity Aborted = 9
gravity Complete = 9

abbrev pub gravest : State → List State → State
gravest state [] = state
gravest state (other ∷ more) = elim (nat_lt (gravity other) (gravity state)) [ true ↦ gravest other more | false ↦ gravest state more ]

-- the state of a reached act, other than the root, of a batch in this state
abbrev pub act_state : State → Rest → State
act_state state (live step phase phase_state) = phase_state
act_state state (open_act step rest) = elim (phase_states (acts rest)) [ [] ↦ state | first ∷ more ↦ gravest first more ]
act_state state _ = Idle

abbrev pub root : Place
root = 0 ∷ []

-- the state of the act at this place, if the tree has an act there
abbrev pub state_in : Batch → Place → Option State
state_in batch place =
    elim (same_place place root) [
      | true ↦ Some batch.state
      | false ↦
          elim (find (λ reached. same_place (place_of reached) place) (acts batch.rest)) [
            | Some reached ↦ Some (act_state batch.state reached)
            | None ↦
                elim (find (λ step. same_place step.place place) (steps batch.recipe.procedure)) [ None ↦ None | Some step ↦ Some Idle ]
          ]
    ]

abbrev pub state_of : Plant → ℕ → Place → Option State
state_of plant number place = elim (batch_at plant number) [ None ↦ None | Some batch ↦ state_in batch place ]
