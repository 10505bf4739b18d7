-- worked rows: lines of the record, worked out.
use Rattle.std.specs.Prelude.{◌≡◌, [], ◌∷◌, codes}
use Rattle.batch_matrix.specs.declared.state.State.TheVariants as State
use Rattle.batch_matrix.specs.declared.command.Command.TheVariants as Command
use Rattle.batch_matrix.specs.declared.report.Report.TheVariants as Report
use Rattle.batch_recipe.specs.Needs.{one_unit}
use Rattle.batch_recipe.specs.Tree.{Phase}
use Rattle.batch_recipe.specs.declared.need.Need.{Need}
use Rattle.batch_model.specs.Events.{created, ordered, removed, reported, refused, report_not_expected, bad_output, output_left_out, bad_binding, bad_value, not_idle}
use Rattle.batch_model.specs.Moves.{send, start, release, pass, ask}
use Rattle.batch_model.specs.Runs.{reply, move}
use Rattle.batch_wire.specs.RecordText.{out_text}

abbrev pub add : Phase
add = record { unit = codes "R1"; name = codes "ADD"; handed = []; reports = [] }

abbrev pub SentCommand : Type 0
SentCommand = out_text (move (send 1 (0 ∷ 0 ∷ []) add Command.Hold)) ≡ codes "send 1 0.0 R1 ADD hold\n"

abbrev pub HandedValues : Type 0
HandedValues = out_text (move (start 1 (0 ∷ 3 ∷ []) add ((codes "QTY", 7) ∷ (codes "T", 0) ∷ []))) ≡ codes "start 1 0.3 R1 ADD QTY=7 T=0\n"

abbrev pub two_units : Need
two_units = record { resource = codes "STEAM"; units = 2 }

abbrev pub AskedUnits : Type 0
AskedUnits = out_text (move (ask 1 (0 ∷ 1 ∷ []) two_units)) ≡ codes "ask 1 0.1 STEAM*2\n"

abbrev pub ReleasedUnit : Type 0
ReleasedUnit = out_text (move (release 1 (0 ∷ 1 ∷ []) (one_unit (codes "STEAM")))) ≡ codes "release 1 0.1 STEAM\n"

abbrev pub PassedUnit : Type 0
PassedUnit = out_text (move (pass 1 (0 ∷ 0 ∷ 0 ∷ []) (0 ∷ 1 ∷ []) (one_unit (codes "R2")))) ≡ codes "pass 1 0.0.0 0.1 R2\n"

abbrev pub CreatedReply : Type 0
CreatedReply = out_text (reply (created 1 (codes "B") 7 ((codes "rx", codes "R2") ∷ (codes "ry", codes "R1") ∷ []))) ≡ codes "created 1 B 7 rx=R2 ry=R1\n"

abbrev pub PlainReply : Type 0
PlainReply = out_text (reply (created 1 (codes "A") 7 [])) ≡ codes "created 1 A 7\n"

abbrev pub CommandReply : Type 0
CommandReply = out_text (reply (ordered Command.Restart 2 State.Restarting)) ≡ codes "ok restart 2 restarting\n"

abbrev pub RemoveReply : Type 0
RemoveReply = out_text (reply (removed 1)) ≡ codes "ok remove 1\n"

abbrev pub FaultReply : Type 0
FaultReply = out_text (reply (reported (codes "R1") (codes "HEAT") Report.Fault 1 (0 ∷ 1 ∷ []) State.Holding)) ≡ codes "ok report R1 HEAT fault 1 0.1 holding\n"

abbrev pub RefusedReport : Type 0
RefusedReport = out_text (reply (refused (report_not_expected State.Aborting))) ≡ codes "refused E5 aborting\n"

abbrev pub RefusedOutput : Type 0
RefusedOutput = out_text (reply (refused bad_output)) ≡ codes "refused E6\n"

abbrev pub RefusedLeavingOut : Type 0
RefusedLeavingOut = out_text (reply (refused (output_left_out (codes "X")))) ≡ codes "refused E13 X\n"

abbrev pub RefusedBinding : Type 0
RefusedBinding = out_text (reply (refused bad_binding)) ≡ codes "refused E12\n"

abbrev pub RefusedValue : Type 0
RefusedValue = out_text (reply (refused (bad_value (codes "QTY")))) ≡ codes "refused E7 F2 QTY\n"

abbrev pub RefusedRemoval : Type 0
RefusedRemoval = out_text (reply (refused (not_idle State.Complete))) ≡ codes "refused E9 complete\n"
