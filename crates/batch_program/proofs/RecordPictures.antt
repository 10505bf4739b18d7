-- The outcome of drawing a record.
use Rattle.std.proofs.Common.{◌≡◌, ◌⊎◌, ℕ, List, Option, Some, None, inl, inr, subst}
use Rattle.std.specs.Prelude.{IfSome}
use Rattle.batch_verdicts.specs.Running.{IsPrinted, IsUnwritten, Stream, memory_status, success_status}
use Rattle.batch_program.specs.{DrawingRuns.IsPictureDrawn, DrawingRuns.declines, DrawingRuns.fails, DrawingRuns.pictures, PlantRuns.refused_status, RecordRuns.no_record_text}
use Rattle.batch_record.specs.{StatusReading.IsRefusedAt, Pictures.picture_text, Recorded.IsRecord, declared.picture.Picture.Picture}

-- the bytes that were drawn are those of the reader
pub drawn_of_input : (unread : Option (List ℕ)) (bytes : List ℕ) (output errors : Stream) (status : ℕ) → IfSome unread (λ input. bytes ≡ input)
    → IsPictureDrawn (Some bytes) output errors status → IsPictureDrawn unread output errors status
drawn_of_input None bytes output errors status same (pictures picture is_record printed) = pictures picture tt printed
drawn_of_input None bytes output errors status same (declines number refused printed) = declines number tt printed
drawn_of_input None bytes output errors status same (fails untold) = fails untold
drawn_of_input (Some input) bytes output errors status same drawn = subst (λ b. IsPictureDrawn (Some b) output errors status) same drawn

-- the text of a picture is printed
pub picture_is_printed : (bytes text : List ℕ) (output errors : Stream) (status : ℕ) → IsRecord bytes × ((picture : Picture) × (text ≡ picture_text picture))
    → IsPrinted output errors text success_status status → IsPictureDrawn (Some bytes) output errors status
picture_is_printed bytes text output errors status (is_record, (picture, same)) printed =
    pictures picture is_record (subst (λ t. IsPrinted output errors t success_status status) same printed)

-- the line that is none of a record is printed, or there was no memory for its refusal
pub refused_is_drawn : (bytes : List ℕ) (output errors : Stream) (number status : ℕ) → IsRefusedAt bytes number
    → IsPrinted output errors (no_record_text number) refused_status status ⊎ (IsUnwritten output × (status ≡ memory_status))
    → IsPictureDrawn (Some bytes) output errors status
refused_is_drawn bytes output errors number status refused (inl printed) = declines number refused printed
refused_is_drawn bytes output errors number status refused (inr (untouched, memory)) = fails (untouched, inr memory)
