-- worked rows: reports, values, and refused events.
use Rattle.std.specs.Prelude.{◌≡◌, ℕ, List, [], ◌∷◌, Option, Some, None, codes}
use Rattle.batch_matrix.specs.declared.state.State.TheVariants.{Idle, Running, Pausing, Holding, Held, Restarting, Stopping, Stopped, Aborting, Aborted}
use Rattle.batch_matrix.specs.declared.command.Command.TheVariants.{Start, Pause, Hold, Restart, Stop, Abort, Reset}
use Rattle.batch_matrix.specs.declared.report.Report.{Report}
use Rattle.batch_recipe.specs.Conditions.{Name, ValueList, value_of}
use Rattle.batch_model.specs.Plant.{batch_at}
use Rattle.batch_model.specs.Moves.{send, state, start}
use Rattle.batch_model.specs.Events.{Event, create, order, report, created, ordered, reported, refused, unknown_recipe, unknown_batch, command_not_accepted, no_live_phase, bad_output, output_left_out, bad_size, bad_value, react}
use Rattle.batch_model.specs.Runs.{Out, reply, move, run}
use Rattle.batch_examples.specs.RowDocuments.{r1, add, heat, x_name, y_name, quantity, name_a, make, charge, cook, cell, cell_with_reports}
use Rattle.batch_examples.specs.RowParts.{p00, p0000, p00000, p00001, create_a, says, add_done, on, add_reporting, starts, releases, refuses, opened, closed, created_a, opened_a, finished_a, settled_after}

-- the phase is no longer live when it reports a second time
abbrev pub ReportTwice : Type 0
ReportTwice =
    run cell (create_a ∷ order Start 1 ∷ add_done ∷ add_done ∷ [])
    ≡ (created_a 1 ∷ opened_a 1 (finished_a 1 (refuses no_live_phase ∷ [])))

-- and nothing changes
abbrev pub ReportTwiceChangesNothing : Type 0
ReportTwiceChangesNothing =
    let complete = settled_after cell (create_a ∷ order Start 1 ∷ add_done ∷ []) in
    react cell complete add_done ≡ (refused no_live_phase, complete)

-- a fault takes the batch to Holding, and the phase that has it takes the hold like the other
abbrev pub FaultHoldsTheBatch : Type 0
FaultHoldsTheBatch =
    run cell
    (create (codes "W") 1000 [] ∷ order Start 1 ∷ says r1 heat Report.Fault ∷ says r1 add Report.Held ∷ says r1 heat Report.Held ∷ [])
    ≡ (reply (created 1 (codes "W") 1000 [])
    ∷ opened 1 (codes "W") r1 make cook
    (starts 1 p00000 r1 add
    ∷ starts 1 p00001 r1 heat
    ∷ reply (reported r1 heat Report.Fault 1 p00001 Holding)
    ∷ move (send 1 p00000 (on r1 add) Hold)
    ∷ move (send 1 p00001 (on r1 heat) Hold)
    ∷ reply (reported r1 add Report.Held 1 p00000 Holding)
    ∷ reply (reported r1 heat Report.Held 1 p00001 Holding)
    ∷ move (state 1 Held)
    ∷ []))

-- a fault of a phase while its batch stops changes nothing
abbrev pub FaultWhileStopping : Type 0
FaultWhileStopping =
    run cell (create_a ∷ order Start 1 ∷ order Stop 1 ∷ says r1 add Report.Fault ∷ [])
    ≡ (created_a 1
    ∷ opened_a 1
    (reply (ordered Stop 1 Stopping)
    ∷ move (send 1 p0000 (on r1 add) Stop)
    ∷ reply (reported r1 add Report.Fault 1 p0000 Stopping)
    ∷ []))

-- Outputs

abbrev pub sets : ValueList → Event
sets outputs = report r1 add Report.Done outputs

-- an output that isn't declared, one that is named twice, and a value above the greatest; then a good one, after which the loop goes on
abbrev pub OutputRefusals : Type 0
OutputRefusals =
    run cell
    (create (codes "L") 1000 [] ∷ order Start 1
    ∷ sets ((codes "Y", 1) ∷ []) ∷ sets ((x_name, 1) ∷ (x_name, 2) ∷ []) ∷ sets ((x_name, 1000000000001) ∷ []) ∷ sets ((x_name, 0) ∷ []) ∷ [])
    ≡ (reply (created 1 (codes "L") 1000 [])
    ∷ opened 1 (codes "L") r1 make charge
    (starts 1 p00000 r1 add
    ∷ refuses bad_output
    ∷ refuses bad_output
    ∷ refuses bad_output
    ∷ reply (reported r1 add Report.Done 1 p00000 Running)
    ∷ starts 1 p00000 r1 add
    ∷ []))

-- the value that batch 1 has after these events
abbrev pub value_after : List Event → Name → Option ℕ
value_after es name = elim (batch_at (settled_after cell es) 1) [ None ↦ None | Some b ↦ value_of b.values name ]

abbrev pub three_turns : List Event → List Event
three_turns more = create (codes "L") 1000 [] ∷ order Start 1 ∷ add_done ∷ add_done ∷ sets ((x_name, 1) ∷ []) ∷ more

-- a completed batch keeps its outputs
abbrev pub OutputIsKept : Type 0
OutputIsKept = value_after (three_turns []) x_name ≡ Some 1

abbrev pub ResetClearsOutput : Type 0
ResetClearsOutput = value_after (three_turns (order Reset 1 ∷ [])) x_name ≡ Some 0

-- a fault sets no outputs, whatever stands beside it
abbrev pub FaultSetsNoOutput : Type 0
FaultSetsNoOutput = value_after (create (codes "L") 1000 [] ∷ order Start 1 ∷ report r1 add Report.Fault ((x_name, 1) ∷ []) ∷ []) x_name ≡ Some 0

-- Outputs that a phase reports

-- RP comes to its phase, which reports X
abbrev pub create_rp : Event
create_rp = create (codes "RP") 1000 []

abbrev pub start_rp : Out
start_rp = move (start 1 p00000 (add_reporting (x_name ∷ [])) [])

abbrev pub opened_rp : List Out → List Out
opened_rp more = reply (created 1 (codes "RP") 1000 []) ∷ opened 1 (codes "RP") r1 make charge (start_rp ∷ more)

-- the phase is done and leaves out X; then it has an undeclared output as well, which is refused first; and then X is 0
abbrev pub LeftOut : Type 0
LeftOut =
    run cell_with_reports (create_rp ∷ order Start 1 ∷ add_done ∷ sets ((y_name, 1) ∷ []) ∷ sets ((x_name, 0) ∷ []) ∷ [])
    ≡ opened_rp
    (refuses (output_left_out x_name) ∷ refuses bad_output ∷ reply (reported r1 add Report.Done 1 p00000 Running) ∷ start_rp ∷ [])

abbrev pub LeavingOutChangesNothing : Type 0
LeavingOutChangesNothing =
    let started = settled_after cell_with_reports (create_rp ∷ order Start 1 ∷ []) in
    react cell_with_reports started add_done ≡ (refused (output_left_out x_name), started)

-- the first in the listed order is replied, wherever it is among the recipe's outputs, and whatever order the report has
abbrev pub FirstLeftOut : Type 0
FirstLeftOut =
    run cell_with_reports
    (create (codes "YX") 1000 [] ∷ order Start 1
    ∷ add_done ∷ sets ((x_name, 1) ∷ []) ∷ sets ((y_name, 1) ∷ []) ∷ sets ((x_name, 1) ∷ (y_name, 2) ∷ []) ∷ [])
    ≡ (reply (created 1 (codes "YX") 1000 [])
    ∷ opened 1 (codes "YX") r1 make charge
    (move (start 1 p0000 (add_reporting (y_name ∷ x_name ∷ [])) [])
    ∷ refuses (output_left_out y_name)
    ∷ refuses (output_left_out y_name)
    ∷ refuses (output_left_out x_name)
    ∷ reply (reported r1 add Report.Done 1 p0000 Running)
    ∷ closed 1 r1 []))

-- also while the phase is pausing, holding and restarting; a word but `done` reports none, and in stopping none need be reported
abbrev pub LeftOutBeforeStopping : Type 0
LeftOutBeforeStopping =
    let phase = add_reporting (x_name ∷ []) in
    run cell_with_reports
    (create_rp ∷ order Start 1 ∷ order Pause 1 ∷ add_done ∷ order Hold 1 ∷ add_done ∷ says r1 add Report.Held
    ∷ order Restart 1 ∷ add_done ∷ order Stop 1 ∷ add_done ∷ [])
    ≡ opened_rp
    (reply (ordered Pause 1 Pausing) ∷ move (send 1 p00000 phase Pause)
    ∷ refuses (output_left_out x_name)
    ∷ reply (ordered Hold 1 Holding) ∷ move (send 1 p00000 phase Hold)
    ∷ refuses (output_left_out x_name)
    ∷ reply (reported r1 add Report.Held 1 p00000 Holding) ∷ move (state 1 Held)
    ∷ reply (ordered Restart 1 Restarting) ∷ move (send 1 p00000 phase Restart)
    ∷ refuses (output_left_out x_name)
    ∷ reply (ordered Stop 1 Stopping) ∷ move (send 1 p00000 phase Stop)
    ∷ reply (reported r1 add Report.Done 1 p00000 Stopping) ∷ releases 1 p00 r1 ∷ move (state 1 Stopped)
    ∷ [])

-- nor in aborting
abbrev pub NoneLeftOutInAborting : Type 0
NoneLeftOutInAborting =
    run cell_with_reports (create_rp ∷ order Start 1 ∷ order Abort 1 ∷ add_done ∷ [])
    ≡ opened_rp
    (reply (ordered Abort 1 Aborting) ∷ move (send 1 p00000 (add_reporting (x_name ∷ [])) Abort)
    ∷ reply (reported r1 add Report.Done 1 p00000 Aborting) ∷ releases 1 p00 r1 ∷ move (state 1 Aborted)
    ∷ [])

-- Formula

abbrev pub create_f : ℕ → Event
create_f size = create (codes "F") size []

-- 333 scaled from 1000 to 500 is 167, and the phase is handed it
abbrev pub ScaledQuantity : Type 0
ScaledQuantity =
    run cell (create_f 500 ∷ order Start 1 ∷ [])
    ≡ (reply (created 1 (codes "F") 500 [])
    ∷ opened 1 (codes "F") r1 make charge
    (move (start 1 p0000 (record { unit = r1; name = add; handed = quantity ∷ []; reports = [] }) ((quantity, 167) ∷ []))
    ∷ []))

-- no size, the greatest value, and a value above it
abbrev pub FormulaRefusals : Type 0
FormulaRefusals =
    run cell (create_f 0 ∷ create_f 1000000001 ∷ create_f 1503 ∷ create_f 1504 ∷ [])
    ≡ (refuses bad_size ∷ refuses bad_size ∷ reply (created 1 (codes "F") 1503 []) ∷ refuses (bad_value quantity) ∷ [])

abbrev pub GreatestValueIsTaken : Type 0
GreatestValueIsTaken = value_after (create_f 1503 ∷ []) quantity ≡ Some 500

-- Refused events

-- before a batch is created, before it is started and while it runs
abbrev pub RefusedEvents : Type 0
RefusedEvents =
    run cell
    (order Start 1 ∷ create name_a 0 [] ∷ create (codes "ZZ") 0 [] ∷ create_a ∷ order Start 9 ∷ order Pause 1 ∷ add_done ∷ order Start 1 ∷ order Start 1 ∷ [])
    ≡ (refuses unknown_batch
    ∷ refuses bad_size
    ∷ refuses unknown_recipe
    ∷ created_a 1
    ∷ refuses unknown_batch
    ∷ refuses (command_not_accepted Idle)
    ∷ refuses no_live_phase
    ∷ opened_a 1
    (refuses (command_not_accepted Running)
    ∷ []))
