-- trusted: the events that come from outside, the plant's reply to each, and the plant after it.
use Rattle.std.specs.Prelude.{ℕ, suc, List, [], ◌∷◌, ◌++◌, length, map, filter, find, Bool, true, false, ◌&&◌, ◌||◌, not, Option, Some, None, nat_eq, nat_lt, nat_le}
use Rattle.std.specs.List.{list_all}
use Rattle.std.specs.Option.{option_or}
use Rattle.batch_matrix.specs.declared.state.State.{State}
use Rattle.batch_matrix.specs.declared.state.State.TheVariants.{Idle, Holding}
use Rattle.batch_matrix.specs.declared.command.Command.{Command}
use Rattle.batch_matrix.specs.declared.command.Command.TheVariants.{Hold}
use Rattle.batch_matrix.specs.declared.report.Report.{Report}
use Rattle.batch_matrix.specs.declared.report.ReportOutcome.{ReportOutcome}
use Rattle.batch_matrix.specs.declared.report.ReportOutcome.TheVariants.{Ended, Now, Same}
use Rattle.batch_matrix.specs.Matrix.{same_state, same_report, accepts, target, after_report}
use Rattle.batch_recipe.specs.Conditions.{Name, ValueList, same_name}
use Rattle.batch_recipe.specs.Values.{with_values, with_outputs_zero, are_outputs, left_out}
use Rattle.batch_recipe.specs.Expanding.{Binding}
use Rattle.batch_recipe.specs.WellFormed.{is_among, are_distinct}
use Rattle.batch_recipe.specs.Tree.{Place, Phase}
use Rattle.batch_model.specs.Rest.{Rest, live, acts, reach, withdrawn}
use Rattle.batch_model.specs.Plant.{Formula, size_out_of_range, value_out_of_range, scaled, Recipe, Role, Master, Setup, Batch, Share, Plant, batch_at, in_batch, in_act}
use Rattle.batch_model.specs.Moves.{is_stopping, ended, next}
use Rattle.batch_model.specs.declared.limits.TheConstants.{LAST_NUMBER}

pub data Event : Type 0 where
  -- the recipe, the size, and pairs of a role and the unit that is to take it
  create : Name → ℕ → List (Name × Name) → Event
  order : Command → ℕ → Event
  remove : ℕ → Event
  -- the unit, the phase, the word, and the outputs, which count if the phase is done
  report : Name → Name → Report → ValueList → Event

pub data Refusal : Type 0 where
  unknown_recipe : Refusal
  unknown_batch : Refusal
  command_not_accepted : State → Refusal
  no_live_phase : Refusal
  report_not_expected : State → Refusal
  bad_output : Refusal
  -- the first output that was left out
  output_left_out : Name → Refusal
  bad_binding : Refusal
  bad_size : Refusal
  bad_value : Name → Refusal
  full : Refusal
  not_idle : State → Refusal
  moves_pending : Refusal
  no_memory : Refusal

pub data Reply : Type 0 where
  -- the batch's number, its recipe, its size, and each role with the unit that takes it, in the order of the roles
  created : ℕ → Name → ℕ → List (Name × Name) → Reply
  -- the batch's state after it
  ordered : Command → ℕ → State → Reply
  removed : ℕ → Reply
  -- the unit, the phase, the word, the batch, the phase step's place, and the batch's state after it
  reported : Name → Name → Report → ℕ → Place → State → Reply
  refused : Refusal → Reply

-- the answer to an event: the reply, and the plant after it
abbrev pub Answer : Type 0
Answer = Reply × Plant

-- the limit of batches is reached, or the last number was given
abbrev pub is_full : Setup → Plant → Bool
is_full setup plant = nat_le setup.batch_limit (length plant.batches) || nat_lt LAST_NUMBER plant.next_number

-- an idle batch whose procedure is reached
abbrev pub new_batch : ℕ → Recipe → ℕ → ValueList → Batch
new_batch number recipe size values =
    record { number = number; recipe = recipe; size = size; values = values; state = Idle; rest = reach (record { values = values; early = [] }) recipe.procedure; in_advance = [] }

abbrev pub with_batch : Plant → Recipe → ℕ → ValueList → Plant
with_batch plant recipe size values =
    record plant { batches = plant.batches ++ new_batch plant.next_number recipe size values ∷ []; next_number = suc plant.next_number }

abbrev pub creating : Plant → Recipe → ℕ → List (Name × Name) → Formula → Answer
creating plant recipe size told size_out_of_range = (refused bad_size, plant)
creating plant recipe size told (value_out_of_range name) = (refused (bad_value name), plant)
creating plant recipe size told (scaled values) = (created plant.next_number recipe.name size told, with_batch plant recipe size values)

-- the unit that the first pair with this role gives it
abbrev pub bound_by : List (Name × Name) → Binding
bound_by [] role = []
bound_by (pair ∷ pairs) role = elim (same_name pair.0 role) [ true ↦ pair.1 | false ↦ bound_by pairs role ]

-- each role is bound once, to a unit that may take it, and no other name is
abbrev pub is_binding : List Role → List (Name × Name) → Bool
is_binding roles pairs =
    are_distinct (map (λ pair. pair.0) pairs)
    && (list_all (λ pair. is_among (map (λ role. role.name) roles) pair.0) pairs
    && list_all (λ role. is_among role.candidates (bound_by pairs role.name)) roles)

-- each role with the unit that takes it
abbrev pub roles_told : List Role → Binding → List (Name × Name)
roles_told roles bound = map (λ role. (role.name, bound role.name)) roles

-- a batch of the control recipe for these units
abbrev pub creating_for : Plant → Master → ℕ → Binding → Answer
creating_for plant master size bound =
    creating plant (master.control bound) size (roles_told master.roles bound) ((master.control bound).formula size)

abbrev pub binding : Plant → Master → ℕ → List (Name × Name) → Answer
binding plant master size pairs =
    elim (is_binding master.roles pairs) [ false ↦ (refused bad_binding, plant) | true ↦ creating_for plant master size (bound_by pairs) ]

-- Commands

-- the batch made anew, with its outputs 0
abbrev pub reset : Batch → Batch
reset batch = new_batch batch.number batch.recipe batch.size (with_outputs_zero batch.recipe.outputs batch.values)

-- the command leads on the way to Stopped or Aborted, on which no ask is left
abbrev pub ends_asks : Command → Bool
ends_asks command = is_stopping (target command)

-- the batch after a command that its state accepts
abbrev pub commanded : Command → Batch → Batch
commanded command batch =
    elim (same_state (target command) Idle) [
      | true ↦ reset batch
      | false ↦ record batch { state = target command; rest = elim (ends_asks command) [ true ↦ withdrawn batch.rest | false ↦ batch.rest ] }
    ]

-- the queues without the asks of the batch with this number, if the command ends them
abbrev pub lines_under : Command → ℕ → (Name → List Share) → Name → List Share
lines_under command number line resource =
    elim (ends_asks command) [ false ↦ line resource | true ↦ filter (λ share. not (nat_eq share.act.0 number)) (line resource) ]

abbrev pub ordering : Plant → Command → Batch → Answer
ordering plant command batch =
    elim (accepts batch.state command) [
      | false ↦ (refused (command_not_accepted batch.state), plant)
      | true ↦ (
        ordered command batch.number (target command),
        record (in_batch batch.number (commanded command) plant) { line = lines_under command batch.number plant.line },
      )
    ]

-- Removal

abbrev pub without_batch : ℕ → Plant → Plant
without_batch number plant = record plant { batches = filter (λ batch. not (nat_eq batch.number number)) plant.batches }

abbrev pub removing : Plant → Batch → Answer
removing plant batch =
    elim (same_state batch.state Idle)
    [ true ↦ (removed batch.number, without_batch batch.number plant) | false ↦ (refused (not_idle batch.state), plant) ]

-- Reports

-- a live phase: the batch that runs it, its place, the phase and its state
pub record LivePhase : Type 0 where
  pub batch : Batch
  pub place : Place
  pub phase : Phase
  pub state : State

abbrev pub live_in : Batch → Name → Name → List Rest → Option LivePhase
live_in batch unit name [] = None
live_in batch unit name (live step phase state ∷ more) =
    elim (same_name phase.unit unit && same_name phase.name name)
    [ true ↦ Some (record { batch = batch; place = step.place; phase = phase; state = state }) | false ↦ live_in batch unit name more ]
live_in batch unit name (_ ∷ more) = live_in batch unit name more

abbrev pub live_phase : List Batch → Name → Name → Option LivePhase
live_phase [] unit name = None
live_phase (batch ∷ more) unit name = option_or (live_in batch unit name (acts batch.rest)) (live_phase more unit name)

abbrev pub phase_after : ReportOutcome → Rest → Rest
phase_after Ended rest = ended rest
phase_after Same rest = rest
phase_after (Now becomes) (live step phase state) = live step phase becomes
phase_after (Now becomes) rest = rest

-- a fault takes the batch to Holding if its state accepts hold
abbrev pub batch_state_after : Report → State → State
batch_state_after word state = elim (same_report word Report.Fault && accepts state Hold) [ true ↦ Holding | false ↦ state ]

-- the outputs of a report, which count only if the phase is done
abbrev pub outputs_of : Report → ValueList → ValueList
outputs_of word outputs = elim (same_report word Report.Done) [ true ↦ outputs | false ↦ [] ]

-- the batch after a report: first the outputs are set, then the phase changes
abbrev pub batch_reported : Report → ValueList → Place → ReportOutcome → Batch → Batch
batch_reported word outputs place phase_end batch =
    in_act place (phase_after phase_end)
    (record batch { values = with_values outputs batch.values; state = batch_state_after word batch.state })

-- the outputs among these that a phase in this state has to report with the word: all once it is done, unless it is stopping or aborting
abbrev pub owed : State → Report → List Name → List Name
owed now word names = elim (same_report word Report.Done && not (is_stopping now)) [ true ↦ names | false ↦ [] ]

-- the answer to an expected report whose outputs may be set; the name, if any, is the first output that it leaves out
abbrev pub accepting : Plant → Name → Name → Report → ValueList → LivePhase → ReportOutcome → Option Name → Answer
accepting plant unit name word outputs found phase_end (Some output) = (refused (output_left_out output), plant)
accepting plant unit name word outputs found phase_end None = (
  reported unit name word found.batch.number found.place (batch_state_after word found.batch.state),
  in_batch found.batch.number (batch_reported word outputs found.place phase_end) plant,
)

abbrev pub reporting : Plant → Name → Name → Report → ValueList → LivePhase → Answer
reporting plant unit name word outputs found =
    elim (after_report found.state word) [
      | None ↦ (refused (report_not_expected found.state), plant)
      | Some phase_end ↦
          elim (are_outputs found.batch.recipe.outputs outputs) [
            | false ↦ (refused bad_output, plant)
            | true ↦ accepting plant unit name word outputs found phase_end (left_out (owed found.state word found.phase.reports) outputs)
          ]
    ]

-- the answer to an event while no move is pending: the first refusal that has a cause, or else the effect that was asked for
abbrev pub judged : Setup → Plant → Event → Answer
judged setup plant (create name size pairs) =
    elim (find (λ master. same_name master.name name) setup.recipes) [
      | None ↦ (refused unknown_recipe, plant)
      | Some master ↦ elim (is_full setup plant) [ true ↦ (refused full, plant) | false ↦ binding plant master size pairs ]
    ]
judged setup plant (order command number) =
    elim (batch_at plant number) [ None ↦ (refused unknown_batch, plant) | Some batch ↦ ordering plant command batch ]
judged setup plant (remove number) =
    elim (batch_at plant number) [ None ↦ (refused unknown_batch, plant) | Some batch ↦ removing plant batch ]
judged setup plant (report unit name word outputs) =
    elim (live_phase plant.batches unit name)
    [ None ↦ (refused no_live_phase, plant) | Some found ↦ reporting plant unit name word (outputs_of word outputs) found ]

abbrev pub react : Setup → Plant → Event → Answer
react setup plant event = elim (next setup plant) [ Some move ↦ (refused moves_pending, plant) | None ↦ judged setup plant event ]
