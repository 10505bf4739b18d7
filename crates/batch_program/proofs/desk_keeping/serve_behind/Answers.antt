use Rattle.std.proofs.Common.{inl, inr}
use Rattle.std.proofs.lemmas.Grind.{merely}
use Rattle.batch_program.proofs.DesksOverJournal.{well_served}
use Rattle.batch_program.proofs.desk_keeping.serve_behind.Goals as goal

pub returns-in-Err-clause-stays : goal.returns-in-Err-clause-stays
returns-in-Err-clause-stays g c = λ d. merely (c.requires.was d)

pub returns-in-Err-clause-told : goal.returns-in-Err-clause-told
returns-in-Err-clause-told g c = inr (c.in-Err.ensures, c.complain_block-status.ensures)

pub returns-clause-told : goal.returns-clause-told
returns-clause-told g c =
    let ended = c.serve_desks-ended in
    let told = c.report_kept-status.ensures in
    inl (
      _,
      c.in_default.ensures,
      record {
        served = λ well. well_served ended.result _ (rw (c.into_disk.ensures.disk, ← c.new-groups.ensures.disk) ended.ensures) (told.well well);
        ends = told.ends;
      },
    )
