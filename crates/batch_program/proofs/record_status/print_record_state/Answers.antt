use Rattle.std.proofs.Common.{inl}
use Rattle.std.proofs.KnownBytes.{Keeps-refl}
use Rattle.batch_program.proofs.record_status.print_record_state.Goals as goal

pub returns-in-Ok : goal.returns-in-Ok
returns-in-Ok g c =
    rw c.in-Some.is
    (Keeps-refl _, inl (_, rw c.deref.ensures at c.in-Ok.ensures, rw c.new.ensures at c.print_status-in-Ok.ensures))

pub returns-in-None : goal.returns-in-None
returns-in-None g c = rw c.in-None.is c.print_status.ensures
