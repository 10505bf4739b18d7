use Rattle.std.proofs.Common.{inl, inr}
use Rattle.std.proofs.KnownBytes.{Keeps-refl}
use Rattle.batch_program.proofs.desk_keeping.serve_desks_over_journal.Goals as goal

pub returns-in_default : goal.returns-in_default
returns-in_default g c = inr (Keeps-refl _, inr c.complain.ensures)

pub returns-in-Ok-open_journal : goal.returns-in-Ok-open_journal
returns-in-Ok-open_journal g c =
    let opened = c.in-Ok-open_journal in
    inl (opened.disk, c.serve_opened-status.result.1, opened.ensures.opened, λ d. (opened.ensures.fresh d).0, c.serve_opened-status.ensures)

pub returns-in-Err : goal.returns-in-Err
returns-in-Err g c = inr (Keeps-refl _, c.complain_unopened.ensures)
