use Rattle.std.proofs.Common.{inl, inr}
use Rattle.std.proofs.KnownBytes.{Keeps-refl}
use Rattle.batch_program.proofs.keeping.serve_over_journal.Goals as goal

pub returns-in-Ok : goal.returns-in-Ok
returns-in-Ok g c = inl (c.in-Ok.disk, c.serve_opened-status.result.1, c.in-Ok.ensures.opened, λ d. (c.in-Ok.ensures.fresh d).0, rw (← c.remarking_of-remarking.ensures) c.serve_opened-status.ensures)

pub returns-in-Err : goal.returns-in-Err
returns-in-Err g c = inr (Keeps-refl _, c.complain_unopened.ensures)
