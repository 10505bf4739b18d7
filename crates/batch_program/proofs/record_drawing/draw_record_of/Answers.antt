use Rattle.std.proofs.KnownBytes.{Keeps-refl}
use Rattle.batch_program.{specs.DrawingRuns.fails, proofs.RecordPictures.drawn_of_input}
use Rattle.batch_program.proofs.record_drawing.draw_record_of.Goals as goal

pub returns-in-Ok : goal.returns-in-Ok
returns-in-Ok g c = drawn_of_input _ c.in-Ok.bytes.items _ _ _ c.in-Ok.ensures (rw c.deref.ensures.value at c.draw_bytes.ensures)

pub returns-in-Err : goal.returns-in-Err
returns-in-Err g c = fails (Keeps-refl _, c.complain_unread.ensures)
