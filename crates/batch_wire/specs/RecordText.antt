-- trusted: the text of the record: a line for each out of the machine.
use Rattle.std.specs.Prelude.{ℕ, List, [], ◌∷◌, ◌++◌, map, codes, decimal, nat_lt, true, false}
use Rattle.batch_matrix.specs.declared.state.State.{State}
use Rattle.batch_matrix.specs.declared.command.Command.{Command}
use Rattle.batch_matrix.specs.declared.report.Report.{Report}
use Rattle.batch_recipe.specs.Conditions.{Name, ValueList}
use Rattle.batch_recipe.specs.Texts.{line_text, place_text}
use Rattle.batch_recipe.specs.declared.need.Need.{Need}
use Rattle.batch_model.specs.Moves.{Move, send, state, release, begin, start, end, pass, ask, grant}
use Rattle.batch_model.specs.Events.{Refusal, unknown_recipe, unknown_batch, command_not_accepted, no_live_phase, report_not_expected, bad_output, output_left_out, bad_binding, bad_size, bad_value, full, not_idle, moves_pending, no_memory, Reply, created, ordered, removed, reported, refused}
use Rattle.batch_model.specs.Runs.{Out, reply, move}

-- Words

abbrev pub state_text : State → List ℕ
state_text State.Idle = codes "idle"
state_text State.Running = codes "running"
state_text State.Pausing = codes "pausing"
state_text State.Paused = codes "paused"
state_text State.Holding = codes "holding"
state_text State.Held = codes "held"
state_text State.Restarting = codes "restarting"
state_text State.Stopping = codes "stopping"
state_text State.Stopped = codes "stopped"
state_text State.Aborting = codes "aborting"
state_text State.Aborted = codes "aborted"
state_text State.Complete = codes "complete"

abbrev pub command_text : Command → List ℕ
command_text Command.Start = codes "start"
command_text Command.Pause = codes "pause"
command_text Command.Resume = codes "resume"
command_text Command.Hold = codes "hold"
command_text Command.Restart = codes "restart"
command_text Command.Stop = codes "stop"
command_text Command.Abort = codes "abort"
command_text Command.Reset = codes "reset"

abbrev pub report_text : Report → List ℕ
report_text Report.Done = codes "done"
report_text Report.Paused = codes "paused"
report_text Report.Held = codes "held"
report_text Report.Running = codes "running"
report_text Report.Stopped = codes "stopped"
report_text Report.Aborted = codes "aborted"
report_text Report.Fault = codes "fault"

-- the values that a phase is handed, as `NAME=VALUE`
abbrev pub value_text : Name × ℕ → List ℕ
value_text value = value.0 ++ (codes "=" ++ decimal value.1)

abbrev pub value_texts : ValueList → List (List ℕ)
value_texts values = map value_text values

-- the units that take roles, as `ROLE=UNIT`
abbrev pub role_text : Name × Name → List ℕ
role_text role = role.0 ++ (codes "=" ++ role.1)

abbrev pub role_texts : List (Name × Name) → List (List ℕ)
role_texts roles = map role_text roles

-- a resource, and after a star how many units of it, if it is more than one
abbrev pub need_text : Need → List ℕ
need_text need = elim (nat_lt 1 need.units) [ false ↦ need.resource | true ↦ need.resource ++ (codes "*" ++ decimal need.units) ]

-- Lines

abbrev pub refusal_words : Refusal → List (List ℕ)
refusal_words unknown_recipe = codes "E1" ∷ []
refusal_words unknown_batch = codes "E2" ∷ []
refusal_words (command_not_accepted x) = codes "E3" ∷ state_text x ∷ []
refusal_words no_live_phase = codes "E4" ∷ []
refusal_words (report_not_expected x) = codes "E5" ∷ state_text x ∷ []
refusal_words bad_output = codes "E6" ∷ []
refusal_words bad_size = codes "E7" ∷ codes "F1" ∷ []
refusal_words (bad_value name) = codes "E7" ∷ codes "F2" ∷ name ∷ []
refusal_words full = codes "E8" ∷ []
refusal_words (not_idle x) = codes "E9" ∷ state_text x ∷ []
refusal_words moves_pending = codes "E10" ∷ []
refusal_words no_memory = codes "E11" ∷ []
refusal_words bad_binding = codes "E12" ∷ []
refusal_words (output_left_out name) = codes "E13" ∷ name ∷ []

abbrev pub reply_words : Reply → List (List ℕ)
reply_words (created n recipe size roles) = codes "created" ∷ decimal n ∷ recipe ∷ decimal size ∷ role_texts roles
reply_words (ordered command n x) = codes "ok" ∷ command_text command ∷ decimal n ∷ state_text x ∷ []
reply_words (removed n) = codes "ok" ∷ codes "remove" ∷ decimal n ∷ []
reply_words (reported unit phase word n place x) =
    codes "ok" ∷ codes "report" ∷ unit ∷ phase ∷ report_text word ∷ decimal n ∷ place_text place ∷ state_text x ∷ []
reply_words (refused why) = codes "refused" ∷ refusal_words why

abbrev pub move_words : Move → List (List ℕ)
move_words (send n place phase command) =
    codes "send" ∷ decimal n ∷ place_text place ∷ phase.unit ∷ phase.name ∷ command_text command ∷ []
move_words (state n x) = codes "state" ∷ decimal n ∷ state_text x ∷ []
move_words (release n place need) = codes "release" ∷ decimal n ∷ place_text place ∷ need_text need ∷ []
move_words (begin n place name) = codes "begin" ∷ decimal n ∷ place_text place ∷ name ∷ []
move_words (start n place phase values) =
    codes "start" ∷ decimal n ∷ place_text place ∷ phase.unit ∷ phase.name ∷ value_texts values
move_words (end n place) = codes "end" ∷ decimal n ∷ place_text place ∷ []
move_words (pass n place to need) = codes "pass" ∷ decimal n ∷ place_text place ∷ place_text to ∷ need_text need ∷ []
move_words (ask n place need) = codes "ask" ∷ decimal n ∷ place_text place ∷ need_text need ∷ []
move_words (grant n place need) = codes "grant" ∷ decimal n ∷ place_text place ∷ need_text need ∷ []

abbrev pub out_words : Out → List (List ℕ)
out_words (reply r) = reply_words r
out_words (move m) = move_words m

-- the line of an out in the record
abbrev pub out_text : Out → List ℕ
out_text out = line_text (out_words out)
