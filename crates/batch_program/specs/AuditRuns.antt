-- trusted: the outcome of the command `audit`, and its printed lines.
use Rattle.std.specs.Prelude.{◌++◌, ℕ, Bool, true, false, List, [], Option, IfSome, codes, decimal}
use Rattle.clap.specs.Walk.{Text}
use Rattle.batch_verify.specs.ClearedSet.{ClearedSet}
use Rattle.batch_wire.specs.Transcript.{lines_of}
use Rattle.batch_keep.specs.Audits.{BeginsRecordOf, Finds, HasLines, IsRecordOf, told_text}
use Rattle.batch_keep.specs.declared.finding.Finding.{Finding}
use Rattle.batch_keep.specs.declared.finding.Finding.TheVariants.{Agrees, Differs, EndsBefore}
use Rattle.batch_verdicts.specs.Running.{IsPrinted, Stream, success_status}
use Rattle.batch_verdicts.specs.VerdictTexts.{accepted_text}
use Rattle.batch_program.specs.PlantRuns.{refused_status}
use Rattle.batch_program.specs.RecordRuns.{Holds, IsUntold, output_of}
use Rattle.batch_serve.specs.Serves as serving

-- the line of the finding on a record: if a beginning is accepted, so is a record that ends too soon
abbrev pub finding_text : Bool → Finding → List ℕ
finding_text beginning Agrees = accepted_text
finding_text beginning (Differs line) = codes "refused A1 " ++ (decimal line ++ codes "\n")
finding_text true (EndsBefore line) = accepted_text
finding_text false (EndsBefore line) = codes "refused A2 " ++ (decimal line ++ codes "\n")

-- the exit status with that line
abbrev pub finding_status : Bool → Finding → ℕ
finding_status beginning Agrees = success_status
finding_status beginning (Differs line) = refused_status
finding_status true (EndsBefore line) = success_status
finding_status false (EndsBefore line) = refused_status

-- the outcome for the record at the path, against the lines of the input, over the set. The finding is printed. But the output stays as
-- it was, and the fault is reported on the errors in a free text, if
-- - the record can't be opened or read, or shows want of memory;
-- - the input can't be read;
-- - memory is wanting
pub data IsAuditTold (holds : Holds) (set : ClearedSet) (beginning : Bool) (path : Text) (ends : serving.Ends) (errors : Stream) (status : ℕ) : Type 0 where
  finds : (given : Option (List ℕ)) (finding : Finding) → holds path given
      → IfSome given (λ text. IfSome ends.unread (λ input. Finds set (lines_of input) text finding))
      → IsPrinted (output_of ends) errors (finding_text beginning finding) (finding_status beginning finding) status
      → IsAuditTold holds set beginning path ends errors status
  stops : IsUntold (output_of ends) status → IsAuditTold holds set beginning path ends errors status

-- the record is whole lines that without comments are the record of the lines that were sent; if a beginning is accepted, its whole
-- lines begin that, and a part of a line may follow them
abbrev pub IsAccepted : ClearedSet → Bool → List (List ℕ) → List ℕ → Type 0
IsAccepted set false sent text = (lines : List (List ℕ)) × HasLines text lines [] × IsRecordOf set sent (told_text lines)
IsAccepted set true sent text = (lines : List (List ℕ)) × (last : List ℕ) × HasLines text lines last × BeginsRecordOf set sent (told_text lines)
