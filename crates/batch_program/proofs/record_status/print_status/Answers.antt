use Rattle.std.proofs.Common.{inl, inr}
use Rattle.std.proofs.KnownBytes.{Keeps-refl}
use Rattle.batch_program.{specs.RecordRuns.prints, specs.RecordRuns.stops, proofs.RecordStatus.refused_is_told}
use Rattle.batch_program.proofs.record_status.print_status.Goals as goal

pub returns-in-Ok : goal.returns-in-Ok
returns-in-Ok g c = prints c.in-Ok.text.items c.in-Ok.ensures.told (rw c.deref.ensures.value at c.print_bytes.ensures)

pub returns-in-Err-NoRecord : goal.returns-in-Err-NoRecord
returns-in-Err-NoRecord g c =
    refused_is_told _ _ _ c.in-Err-NoRecord.line _ (c.in-Err-NoRecord.ensures.refused c.in-Err-NoRecord.line c.in-Err-NoRecord.field-0-is) c.refuse_line.ensures

pub returns-in-Err-Memory : goal.returns-in-Err-Memory
returns-in-Err-Memory g c = stops (Keeps-refl _, inr c.complain.ensures)

pub returns-in-Err : goal.returns-in-Err
returns-in-Err g c = stops (Keeps-refl _, inl c.complain_stream.ensures)
