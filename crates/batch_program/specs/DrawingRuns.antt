-- trusted: the outcome of the command `draw`.
use Rattle.std.specs.Prelude.{◌⊎◌, ℕ, List, Option, Some, None, IfSome}
use Rattle.std.specs.Io.KnownBytes.{Keeps}
use Rattle.clap.specs.Walk.{Text}
use Rattle.batch_verdicts.specs.Running.{IsPrinted, Stream, success_status}
use Rattle.batch_program.specs.PlantRuns.{refused_status}
use Rattle.batch_program.specs.RecordRuns.{Holds, IsUntold, no_record_text, output_of}
use Rattle.batch_serve.specs.Serves as serving
use Rattle.batch_record.specs.StatusReading.{IsRefusedAt}
use Rattle.batch_record.specs.Pictures.{picture_text}
use Rattle.batch_record.specs.Recorded.{IsRecord}
use Rattle.batch_record.specs.declared.picture.Picture.{Picture}

-- the outcome for a reader's bytes. If they are a record, the text of a picture is printed, and else the number of the first line that is
-- none of a record. A record that can't be opened or read, and want of memory leave the output as it was, and are reported on the errors
-- in a free text
pub data IsPictureDrawn (unread : Option (List ℕ)) (output errors : Stream) (status : ℕ) : Type 0 where
  pictures : (picture : Picture) → IfSome unread IsRecord
      → IsPrinted output errors (picture_text picture) success_status status → IsPictureDrawn unread output errors status
  declines : (number : ℕ) → IfSome unread (λ input. IsRefusedAt input number)
      → IsPrinted output errors (no_record_text number) refused_status status → IsPictureDrawn unread output errors status
  fails : IsUntold output status → IsPictureDrawn unread output errors status

-- the input is the record, or else the one at the path is, and then the input isn't read
abbrev pub IsRecordDrawn : Holds → Option Text → serving.Ends → Stream → ℕ → Type 0
IsRecordDrawn holds None ends errors status = IsPictureDrawn ends.unread (output_of ends) errors status
IsRecordDrawn holds (Some path) ends errors status =
    Keeps ends.unread ends.left
    × (((unread : Option (List ℕ)) × holds path unread × IsPictureDrawn unread (output_of ends) errors status) ⊎ IsUntold (output_of ends) status)
