-- private: the report on a record that was read.
use Rattle.std.specs.Prelude.{ℕ, Bool, List, Option, IfSome}
use Rattle.batch_verify.specs.ClearedSet.{ClearedSet}
use Rattle.batch_wire.specs.Transcript.{lines_of}
use Rattle.batch_keep.specs.Audits.{Finds}
use Rattle.batch_keep.specs.declared.finding.Finding.{Finding}
use Rattle.batch_verdicts.specs.Running.{IsPrinted, Stream}
use Rattle.batch_program.specs.AuditRuns.{finding_status, finding_text}

-- the finding on the text, against the lines of the input, is printed
pub record IsFindingTold (set : ClearedSet) (beginning : Bool) (unread : Option (List ℕ)) (text : List ℕ) (output errors : Stream) (status : ℕ) : Type 0 where
  pub finding : Finding
  pub found : IfSome unread (λ input. Finds set (lines_of input) text finding)
  pub printed : IsPrinted output errors (finding_text beginning finding) (finding_status beginning finding) status
