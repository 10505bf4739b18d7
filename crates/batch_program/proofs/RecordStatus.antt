-- The outcome of reading a record.
use Rattle.std.proofs.Common.{◌≡◌, ◌⊎◌, ℕ, List, [], Option, Some, None, inl, inr}
use Rattle.std.specs.Prelude.{IfSome}
use Rattle.batch_verdicts.specs.Running.{IsPrinted, IsUnwritten, Stream, memory_status}
use Rattle.batch_program.specs.{PlantRuns.refused_status, RecordRuns.IsStatusOf, RecordRuns.IsStatusTold, RecordRuns.no_record_text, RecordRuns.refuses, RecordRuns.stops}
use Rattle.batch_record.specs.{Blocks.Stage, Kept.Keeps, Listing.IsTextOf, StatusReading.IsRefusedAt, StatusReading.LeadsTo, Telling.Tale, declared.status.Status.Status}

-- the lines of the status are those of the state to which the input leads
pub text_of_input : (unread : Option (List ℕ)) (status : Status) (text : List ℕ) → ((tale : Tale) → Keeps status tale → IsTextOf tale [] text)
    → IfSome unread (λ input. (stage : Stage) × LeadsTo input stage × Keeps status stage.tale) → IfSome unread (λ input. IsStatusOf input text)
text_of_input None status text lists told = tt
text_of_input (Some input) status text lists (stage, leads, kept) = record { stage = stage; leads = leads; is_text = lists stage.tale kept }

-- the line that is none of a record is printed, or there was no memory for its refusal
pub refused_is_told : (unread : Option (List ℕ)) (output errors : Stream) (number status : ℕ) → IfSome unread (λ input. IsRefusedAt input number)
    → IsPrinted output errors (no_record_text number) refused_status status ⊎ (IsUnwritten output × (status ≡ memory_status))
    → IsStatusTold unread output errors status
refused_is_told unread output errors number status refused (inl printed) = refuses number refused printed
refused_is_told unread output errors number status refused (inr (untouched, memory)) = stops (untouched, inr memory)
