-- trusted: runs: the records that a plant's events lead to.
use Rattle.std.specs.Prelude.{◌≡◌, ◌⊎◌, ℕ, zero, suc, pred, ◌+◌, ◌*◌, ◌-◌, List, [], ◌∷◌, ◌++◌, length, map, sum_by, Bool, true, false, not, ◌||◌, Some, None, ⊤}
use Rattle.batch_matrix.specs.declared.state.State.{State}
use Rattle.batch_matrix.specs.declared.state.State.TheVariants.{Idle, Running, Pausing, Paused, Holding, Held, Restarting, Stopping, Stopped, Aborting, Aborted, Complete}
use Rattle.batch_matrix.specs.Matrix.{accepts}
use Rattle.batch_recipe.specs.Tree.{Task, runs, follows, Tree, act, skip, seq, par, sel, loop, Trees, no_trees, tree, Choices, otherwise, choice}
use Rattle.batch_model.specs.Rest.{Rest, ready, asking, open_act, live, freeing, in_seq, in_par, in_loop, done, Rests, no_rests, rest}
use Rattle.batch_model.specs.Plant.{Setup, Batch, Plant, opening}
use Rattle.batch_model.specs.Moves.{Move, next, after_move, command_passed_on, is_stopping, is_stopped}
use Rattle.batch_model.specs.Events.{Event, Reply, created, refused, no_memory, react}

pub data Out : Type 0 where
  reply : Reply → Out
  move : Move → Out

abbrev pub IsCreated : Reply → Type 0
IsCreated (created number recipe size roles) = ⊤
IsCreated _ = ⊥

-- the plant may give this reply to the event and become the later plant: both as `react` says, or, if `react` creates a batch, a
-- refusal for want of memory and no change
abbrev pub Reacts : Setup → Plant → Event → Reply → Plant → Type 0
Reacts setup plant event told later =
    (react setup plant event ≡ (told, later)) ⊎ (IsCreated (react setup plant event).0 × (told ≡ refused no_memory) × (later ≡ plant))

-- the record lists the moves and the replies of the plant on its way to the later one, as these events come
abbrev pub Leads : Setup → Plant → List Event → List Out → Plant → Type 0
Leads setup plant [] [] later = plant ≡ later
Leads setup plant (event ∷ events) [] later = ⊥
Leads setup plant events (move made ∷ outs) later = (next setup plant ≡ Some made) × Leads setup (after_move plant made) events outs later
Leads setup plant [] (reply told ∷ outs) later = ⊥
Leads setup plant (event ∷ events) (reply told ∷ outs) later =
    (between : Plant) × Reacts setup plant event told between × Leads setup between events outs later

-- The work left, an upper bound of the moves that can follow before the next event

abbrev mutual
  -- an upper bound of the moves of a chart
  pub toil : Tree → ℕ
  toil (act step task) = 3 * length step.needs + toil_of_work task
  toil skip = 0
  toil (seq charts) = toil_of_each charts
  toil (par charts) = toil_of_each charts
  toil (sel choices) = toil_of_choices choices
  toil (loop turns until body) = toil body + pred turns * toil body

  pub toil_of_work : Task → ℕ
  toil_of_work (runs phase) = 2
  toil_of_work (follows name chart) = 2 + toil chart

  pub toil_of_each : Trees → ℕ
  toil_of_each no_trees = 0
  toil_of_each (tree chart charts) = toil chart + toil_of_each charts

  pub toil_of_choices : Choices → ℕ
  toil_of_choices (otherwise chart) = toil chart
  toil_of_choices (choice condition chart choices) = toil chart + toil_of_choices choices

-- 1 if a batch in this state passes a command on to a phase in that state, else 0
abbrev pub sends : State → State → ℕ
sends state phase_state = elim (command_passed_on state) [ None ↦ 0 | Some command ↦ elim (accepts phase_state command) [ true ↦ 1 | false ↦ 0 ] ]

-- a batch in this state isn't on its way to Stopped or Aborted, nor there
abbrev pub goes_on : State → Bool
goes_on state = not (is_stopping state || is_stopped state)

-- these moves, which lie ahead of a batch only as long as it goes on
abbrev pub ahead : State → ℕ → ℕ
ahead state moves = elim (goes_on state) [ true ↦ moves | false ↦ 0 ]

abbrev mutual
  -- the moves that give back the held needs, grant an ask and send a command, and those that lie ahead
  pub toil_left : State → Rest → ℕ
  toil_left state (ready step task granted) = granted + ahead state (3 * (length step.needs - granted) + toil_of_work task)
  toil_left state (asking step task granted) = granted + 2 + ahead state (3 * (length step.needs - suc granted) + toil_of_work task)
  toil_left state (open_act step remaining) = length step.needs + toil_left state remaining + ahead state 1
  toil_left state (live step phase phase_state) = length step.needs + sends state phase_state
  toil_left state (freeing step left) = left
  toil_left state (in_seq remaining charts) = toil_left state remaining + ahead state (toil_of_each charts)
  toil_left state (in_par rests) = toil_left_in_each state rests
  toil_left state (in_loop turns until body remaining) = toil_left state remaining + ahead state (turns * toil body)
  toil_left state done = 0

  pub toil_left_in_each : State → Rests → ℕ
  toil_left_in_each state no_rests = 0
  toil_left_in_each state (rest remaining rests) = toil_left state remaining + toil_left_in_each state rests

abbrev pub state_moves_left : State → ℕ
state_moves_left Restarting = 2
state_moves_left Running = 1
state_moves_left Pausing = 1
state_moves_left Holding = 1
state_moves_left Stopping = 1
state_moves_left Aborting = 1
state_moves_left Idle = 0
state_moves_left Paused = 0
state_moves_left Held = 0
state_moves_left Stopped = 0
state_moves_left Aborted = 0
state_moves_left Complete = 0

abbrev pub batch_work_left : Batch → ℕ
batch_work_left batch = state_moves_left batch.state + toil_left batch.state batch.rest

abbrev pub work_left : Plant → ℕ
work_left plant = sum_by batch_work_left plant.batches

-- the moves until none is possible, at most as many as the limit, and the plant after them
abbrev pub settling : ℕ → Setup → Plant → List Move × Plant
settling zero setup plant = ([], plant)
settling (suc limit) setup plant =
    elim (next setup plant) [
      | None ↦ ([], plant)
      | Some made ↦ let settled = settling limit setup (after_move plant made) in (made ∷ settled.0, settled.1)
    ]

-- the record of the events, each followed by all moves that become possible
abbrev pub run_from : Setup → Plant → List Event → List Out
run_from setup plant [] = []
run_from setup plant (event ∷ events) =
    let answer = react setup plant event in
    let settled = settling (work_left answer.1) setup answer.1 in
    reply answer.0 ∷ (map move settled.0 ++ run_from setup settled.1 events)

abbrev pub run : Setup → List Event → List Out
run setup events = run_from setup opening events
