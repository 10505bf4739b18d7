-- trusted: the outcome of the command `status`, and its printed lines.
use Rattle.std.specs.Prelude.{◌≡◌, ◌⊎◌, ◌++◌, ℕ, List, [], Option, Some, None, IfSome, codes, decimal}
use Rattle.std.specs.Io.KnownBytes.{Keeps}
use Rattle.clap.specs.Walk.{Text}
use Rattle.batch_verdicts.specs.Running.{IsPrinted, IsUnwritten, Stream, fault_status, memory_status, success_status}
use Rattle.batch_program.specs.PlantRuns.{refused_status}
use Rattle.batch_serve.specs.Serves as serving
use Rattle.batch_record.specs.Blocks.{Stage}
use Rattle.batch_record.specs.Listing.{IsTextOf}
use Rattle.batch_record.specs.StatusReading.{IsRefusedAt, LeadsTo}

-- the bytes that a record that is opened at a path has to be read, if they are known
abbrev pub Holds : Type 1
Holds = List ℕ → Option (List ℕ) → Type 0

-- the text has the lines of the state to which the whole lines of the input lead
pub record IsStatusOf (input text : List ℕ) : Type 0 where
  pub stage : Stage
  pub leads : LeadsTo input stage
  pub is_text : IsTextOf stage.tale [] text

-- the refusal of the line with this number
abbrev pub no_record_text : ℕ → List ℕ
no_record_text number = codes "refused R1 " ++ (decimal number ++ codes "\n")

-- a record that can't be opened or read, and want of memory leave the output as it was, and are reported on the errors in a free text
abbrev pub IsUntold : Stream → ℕ → Type 0
IsUntold output status = IsUnwritten output × ((status ≡ fault_status) ⊎ (status ≡ memory_status))

-- the outcome for a reader's bytes: the state to which they lead is printed, or which line is the first that is none of a record
pub data IsStatusTold (unread : Option (List ℕ)) (output errors : Stream) (status : ℕ) : Type 0 where
  prints : (text : List ℕ) → IfSome unread (λ input. IsStatusOf input text) → IsPrinted output errors text success_status status
      → IsStatusTold unread output errors status
  refuses : (number : ℕ) → IfSome unread (λ input. IsRefusedAt input number) → IsPrinted output errors (no_record_text number) refused_status status
      → IsStatusTold unread output errors status
  stops : IsUntold output status → IsStatusTold unread output errors status

-- the writer's bytes among those of reader and writer
abbrev pub output_of : serving.Ends → Stream
output_of ends = record { before = ends.before; after = ends.after }

-- the input is the record, or else the one at the path is, and then the input isn't read
abbrev pub IsRecordTold : Holds → Option Text → serving.Ends → Stream → ℕ → Type 0
IsRecordTold holds None ends errors status = IsStatusTold ends.unread (output_of ends) errors status
IsRecordTold holds (Some path) ends errors status =
    Keeps ends.unread ends.left
    × (((unread : Option (List ℕ)) × holds path unread × IsStatusTold unread (output_of ends) errors status) ⊎ IsUntold (output_of ends) status)
