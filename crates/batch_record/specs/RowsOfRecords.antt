-- worked rows: lines of the record, read; and lines that are nearly lines of the record and tell no out.
use Rattle.std.specs.Prelude.{◌≡◌, ℕ, List, [], ◌∷◌, codes, Some, None, true, false}
use Rattle.batch_matrix.specs.declared.state.State.TheVariants as State
use Rattle.batch_matrix.specs.declared.command.Command.TheVariants as Command
use Rattle.batch_matrix.specs.declared.report.Report.TheVariants as Report
use Rattle.batch_recipe.specs.Tree.{Phase}
use Rattle.batch_recipe.specs.declared.need.Need.{Need}
use Rattle.batch_model.specs.Events.{created, ordered, removed, reported, refused, command_not_accepted, output_left_out, bad_size, bad_value, no_memory}
use Rattle.batch_model.specs.Moves.{send, state, release, begin, start, end, pass, ask, grant}
use Rattle.batch_model.specs.Runs.{reply, move}
use Rattle.batch_record.specs.Laws.{is_passed_over}
use Rattle.batch_record.specs.RecordLine.{out_of_line}

abbrev pub add : Phase
add = record { unit = codes "R1"; name = codes "ADD"; handed = []; reports = [] }

abbrev pub units_of : List ℕ → ℕ → Need
units_of name units = record { resource = name; units = units }

-- Lines that tell an out

abbrev pub AskedUnits : Type 0
AskedUnits = out_of_line (codes "ask 12 0.10 STEAM*2") ≡ Some (move (ask 12 (0 ∷ 10 ∷ []) (units_of (codes "STEAM") 2)))

abbrev pub GrantedUnit : Type 0
GrantedUnit = out_of_line (codes "grant 1 0.0 R1") ≡ Some (move (grant 1 (0 ∷ 0 ∷ []) (units_of (codes "R1") 1)))

abbrev pub ReleasedUnit : Type 0
ReleasedUnit = out_of_line (codes "release 1 0.0 R1") ≡ Some (move (release 1 (0 ∷ 0 ∷ []) (units_of (codes "R1") 1)))

abbrev pub PassedUnit : Type 0
PassedUnit = out_of_line (codes "pass 1 0.0.0 0.1 R2") ≡ Some (move (pass 1 (0 ∷ 0 ∷ 0 ∷ []) (0 ∷ 1 ∷ []) (units_of (codes "R2") 1)))

abbrev pub StartedPhase : Type 0
StartedPhase = out_of_line (codes "start 1 0.3 R1 ADD QTY=7 T=0") ≡ Some (move (start 1 (0 ∷ 3 ∷ []) add ((codes "QTY", 7) ∷ (codes "T", 0) ∷ [])))

abbrev pub SentCommand : Type 0
SentCommand = out_of_line (codes "send 1 0.0 R1 ADD hold") ≡ Some (move (send 1 (0 ∷ 0 ∷ []) add Command.Hold))

abbrev pub StatedBatch : Type 0
StatedBatch = out_of_line (codes "state 1 held") ≡ Some (move (state 1 State.Held))

abbrev pub BegunAct : Type 0
BegunAct = out_of_line (codes "begin 1 0 main") ≡ Some (move (begin 1 (0 ∷ []) (codes "main")))

abbrev pub EndedAct : Type 0
EndedAct = out_of_line (codes "end 1 4095") ≡ Some (move (end 1 (4095 ∷ [])))

abbrev pub CreatedBatch : Type 0
CreatedBatch = out_of_line (codes "created 1 B 7 rx=R2 ry=R1") ≡ Some (reply (created 1 (codes "B") 7 ((codes "rx", codes "R2") ∷ (codes "ry", codes "R1") ∷ [])))

abbrev pub OrderedBatch : Type 0
OrderedBatch = out_of_line (codes "ok restart 2 restarting") ≡ Some (reply (ordered Command.Restart 2 State.Restarting))

abbrev pub RemovedBatch : Type 0
RemovedBatch = out_of_line (codes "ok remove 1") ≡ Some (reply (removed 1))

abbrev pub ReportedFault : Type 0
ReportedFault = out_of_line (codes "ok report R1 ADD fault 1 0.1 holding") ≡ Some (reply (reported (codes "R1") (codes "ADD") Report.Fault 1 (0 ∷ 1 ∷ []) State.Holding))

abbrev pub RefusedCommand : Type 0
RefusedCommand = out_of_line (codes "refused E3 idle") ≡ Some (reply (refused (command_not_accepted State.Idle)))

abbrev pub RefusedSize : Type 0
RefusedSize = out_of_line (codes "refused E7 F1") ≡ Some (reply (refused bad_size))

abbrev pub RefusedValue : Type 0
RefusedValue = out_of_line (codes "refused E7 F2 QTY") ≡ Some (reply (refused (bad_value (codes "QTY"))))

abbrev pub RefusedLeavingOut : Type 0
RefusedLeavingOut = out_of_line (codes "refused E13 X") ≡ Some (reply (refused (output_left_out (codes "X"))))

abbrev pub RefusedMemory : Type 0
RefusedMemory = out_of_line (codes "refused E11") ≡ Some (reply (refused no_memory))

-- Lines that tell none

abbrev pub IsNoOut : List ℕ → Type 0
IsNoOut line = out_of_line line ≡ None

abbrev pub EmptyLine : Type 0
EmptyLine = IsNoOut []

abbrev pub SpaceAtAnEnd : Type 0
SpaceAtAnEnd = IsNoOut (codes " end 1 0") × IsNoOut (codes "end 1 0 ")

abbrev pub TwoSpaces : Type 0
TwoSpaces = IsNoOut (codes "grant  1 0.0 R1")

abbrev pub LeadingZero : Type 0
LeadingZero = IsNoOut (codes "grant 01 0.0 R1") × IsNoOut (codes "grant 1 0.00 R1") × IsNoOut (codes "start 1 0.3 R1 ADD QTY=07")

abbrev pub OneUnitWithAStar : Type 0
OneUnitWithAStar = IsNoOut (codes "grant 1 0.0 R1*1") × IsNoOut (codes "grant 1 0.0 R1*0")

abbrev pub TooManyUnits : Type 0
TooManyUnits = IsNoOut (codes "grant 1 0.0 R1*4294967296")

abbrev pub NoPlace : Type 0
NoPlace = IsNoOut (codes "end 1 ") × IsNoOut (codes "end 1 4096") × IsNoOut (codes "end 1 0.")

abbrev pub WordTooMany : Type 0
WordTooMany = IsNoOut (codes "end 1 0 main") × IsNoOut (codes "begin 1 0")

abbrev pub RefusedWithout : Type 0
RefusedWithout = IsNoOut (codes "refused E3") × IsNoOut (codes "refused E7 F2") × IsNoOut (codes "refused E1 idle") × IsNoOut (codes "refused E99")
    × IsNoOut (codes "refused E13") × IsNoOut (codes "refused E13 X Y")

abbrev pub UnknownWord : Type 0
UnknownWord = IsNoOut (codes "state 1 restarted") × IsNoOut (codes "ok fly 1 running") × IsNoOut (codes "create A 7")

-- Lines that are passed over, and lines that aren't

abbrev pub Passed : Type 0
Passed = (is_passed_over (codes "# at 17") ≡ true) × (is_passed_over (codes "refused W6") ≡ true)

abbrev pub NotPassed : Type 0
NotPassed = (is_passed_over (codes " # at 17") ≡ false) × (is_passed_over (codes "refused W7") ≡ false) × (is_passed_over (codes "refused E1") ≡ false)
