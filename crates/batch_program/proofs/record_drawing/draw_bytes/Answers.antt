use Rattle.std.proofs.Common.{inr}
use Rattle.std.proofs.KnownBytes.{Keeps-refl}
use Rattle.batch_program.{specs.DrawingRuns.fails, proofs.RecordPictures.picture_is_printed, proofs.RecordPictures.refused_is_drawn}
use Rattle.batch_program.proofs.record_drawing.draw_bytes.Goals as goal

pub returns-in-Ok : goal.returns-in-Ok
returns-in-Ok g c = picture_is_printed _ _ _ _ _ c.in-Ok.ensures.told (rw c.deref.ensures at c.print.ensures)

pub returns-in-Err-NoRecord : goal.returns-in-Err-NoRecord
returns-in-Err-NoRecord g c =
    refused_is_drawn _ _ _ c.in-Err-NoRecord.line _ (c.in-Err-NoRecord.ensures.refused c.in-Err-NoRecord.line c.in-Err-NoRecord.field-0-is) c.refuse_line.ensures

pub returns-in-Err-Memory : goal.returns-in-Err-Memory
returns-in-Err-Memory g c = fails (Keeps-refl _, inr c.complain.ensures)
