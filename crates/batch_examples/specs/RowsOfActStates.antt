-- worked rows: the state of an act, by the phases beneath it.
use Rattle.std.specs.Prelude.{◌≡◌, List, [], ◌∷◌, Some, codes}
use Rattle.batch_matrix.specs.declared.state.State.{State}
use Rattle.batch_matrix.specs.declared.state.State.TheVariants.{Idle, Running, Pausing, Paused, Holding, Held, Restarting, Stopping, Aborting, Complete}
use Rattle.batch_matrix.specs.declared.command.Command.TheVariants.{Start, Pause, Resume, Hold, Stop, Abort}
use Rattle.batch_matrix.specs.declared.report.Report.{Report}
use Rattle.batch_matrix.specs.declared.report.ReportOutcome.TheVariants.{Now}
use Rattle.batch_model.specs.Plant.{Plant, Batch, in_batch, in_act}
use Rattle.batch_model.specs.Moves.{send, after_move}
use Rattle.batch_model.specs.Events.{Event, create, order, phase_after, react}
use Rattle.batch_model.specs.ActStates.{state_of}
use Rattle.batch_examples.specs.RowDocuments.{r1, add, heat, cell}
use Rattle.batch_examples.specs.RowParts.{p0, p00, p000, p0000, p00000, p00001, create_a, add_done, says, on, settled_after}

-- a batch of W, whose phases ADD and HEAT run at once, after further events
abbrev pub plant_of_w : List Event → Plant
plant_of_w es = settled_after cell (create (codes "W") 1000 [] ∷ order Start 1 ∷ es)

abbrev pub with_states : State → State → State → Batch → Batch
with_states batch first second b = record (in_act p00001 (phase_after (Now second)) (in_act p00000 (phase_after (Now first)) b)) { state = batch }

-- the same with the batch and both phases in these states
abbrev pub plant_in : State → State → State → Plant
plant_in batch first second = in_batch 1 (with_states batch first second) (plant_of_w [])

-- the unit procedure and the operation, in which both phases are live, show this state
abbrev pub BothShow : Plant → State → Type 0
BothShow s x = (state_of s 1 p00 ≡ Some x) × (state_of s 1 p000 ≡ Some x)

-- the state x of a phase beneath an act shows before y of another, whichever of them has it and whatever the batch's state is
abbrev pub ShowsBefore : State → State → Type 0
ShowsBefore x y = (batch : State) → BothShow (plant_in batch x y) x × BothShow (plant_in batch y x) x

abbrev pub AbortingBeforeStopping : Type 0
AbortingBeforeStopping = ShowsBefore Aborting Stopping

abbrev pub StoppingBeforeHolding : Type 0
StoppingBeforeHolding = ShowsBefore Stopping Holding

abbrev pub HoldingBeforeRestarting : Type 0
HoldingBeforeRestarting = ShowsBefore Holding Restarting

abbrev pub RestartingBeforePausing : Type 0
RestartingBeforePausing = ShowsBefore Restarting Pausing

abbrev pub PausingBeforeHeld : Type 0
PausingBeforeHeld = ShowsBefore Pausing Held

abbrev pub HeldBeforePaused : Type 0
HeldBeforePaused = ShowsBefore Held Paused

abbrev pub PausedBeforeRunning : Type 0
PausedBeforeRunning = ShowsBefore Paused Running

-- Reached by runs

-- one phase is held already, and the other not yet
abbrev pub HoldingIsShown : Type 0
HoldingIsShown =
    BothShow (plant_of_w (order Hold 1 ∷ says r1 add Report.Held ∷ [])) Holding
    × BothShow (plant_of_w (order Hold 1 ∷ says r1 heat Report.Held ∷ [])) Holding

-- ADD was sent the resume, and HEAT not yet
abbrev pub PausedIsShown : Type 0
PausedIsShown =
    let paused = plant_of_w (order Pause 1 ∷ says r1 add Report.Paused ∷ says r1 heat Report.Paused ∷ []) in
    BothShow (after_move (react cell paused (order Resume 1)).1 (send 1 p00000 (on r1 add) Resume)) Paused

-- ADD was sent the abort, and HEAT stops still
abbrev pub AbortingIsShown : Type 0
AbortingIsShown =
    BothShow (after_move (react cell (plant_of_w (order Stop 1 ∷ [])) (order Abort 1)).1 (send 1 p00000 (on r1 add) Abort)) Aborting

-- the states of all acts of a batch of A, from the procedure down to the phase
abbrev pub AllShow : List Event → State → State → State → State → Type 0
AllShow es procedure unit_procedure operation phase =
    let s = settled_after cell (create_a ∷ es) in
    (state_of s 1 p0 ≡ Some procedure) × (state_of s 1 p00 ≡ Some unit_procedure) × (state_of s 1 p000 ≡ Some operation)
    × (state_of s 1 p0000 ≡ Some phase)

abbrev pub AllIdle : Type 0
AllIdle = AllShow [] Idle Idle Idle Idle

abbrev pub AllRunning : Type 0
AllRunning = AllShow (order Start 1 ∷ []) Running Running Running Running

-- a finished act is Idle
abbrev pub RootAloneComplete : Type 0
RootAloneComplete = AllShow (order Start 1 ∷ add_done ∷ []) Complete Idle Idle Idle

-- acts that are open without a live phase show the batch's state; finished acts and acts that wait to begin are Idle
abbrev pub OpenActsShowBatch : Type 0
OpenActsShowBatch =
    let s = settled_after cell (create (codes "S") 1000 [] ∷ order Start 1 ∷ order Hold 1 ∷ add_done ∷ []) in
    BothShow s Held × (state_of s 1 p00000 ≡ Some Idle) × (state_of s 1 p00001 ≡ Some Idle)

-- a unit procedure that waits for its unit is Idle
abbrev pub AskingActIsIdle : Type 0
AskingActIsIdle =
    let s = settled_after cell (create_a ∷ create_a ∷ order Start 1 ∷ order Start 2 ∷ []) in
    (state_of s 2 p0 ≡ Some Running) × (state_of s 2 p00 ≡ Some Idle)
