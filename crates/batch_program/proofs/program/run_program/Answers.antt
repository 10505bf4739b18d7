use Rattle.std.proofs.Common.{map, option_map, string_bytes}
use Rattle.std.proofs.KnownBytes.{Keeps-refl}
use Rattle.batch_cli.specs.CommandLine.{source_of}
use Rattle.batch_program.{specs.Programs.tells, specs.Programs.serves, specs.Programs.keeps, specs.Programs.reads, specs.Programs.audits, specs.Programs.plants, specs.Programs.writes, specs.Programs.remarks, specs.Programs.draws, specs.Programs.serves_desks, specs.declared.program.TheConstants.MAX_READS, proofs.DeskService.desks_kept, proofs.DeskService.desks_to_serve, proofs.FileRuns.file_to_write, proofs.Plants.has_run, proofs.RunsWithComments.remarked_kept, proofs.RunsWithComments.set_to_remark, proofs.ProgramRuns.audit_kept, proofs.ProgramRuns.drawn_kept, proofs.ProgramRuns.left_kept, proofs.ProgramRuns.plant_to_run, proofs.ProgramRuns.record_kept, proofs.ProgramRuns.record_to_draw, proofs.ProgramRuns.record_to_read, proofs.ProgramRuns.served_kept, proofs.ProgramRuns.set_to_audit, proofs.ProgramRuns.set_to_serve, proofs.ProgramRuns.told_kept, proofs.ProgramRuns.journal_kept, proofs.ProgramRuns.set_to_keep}
use Rattle.batch_program.proofs.program.run_program.Goals as goal

pub returns-in-Ends : goal.returns-in-Ends
returns-in-Ends g c = tells c.in-Ends.status c.in-Ends.ensures (Keeps-refl _)

pub returns-in-Writes : goal.returns-in-Writes
returns-in-Writes g c =
    let path = c.in-Writes.path in
    let text = c.in-Writes.text in
    let (judgement, asked, told, kept) =
    file_to_write (g.D.Documents.gives c.args.documents.now) (map string_bytes c.args.words.now) _ _ _ path text c.run_words.ensures c.in-Writes.is in
    writes (string_bytes path) judgement (string_bytes text) _ c.write_file.result asked told
    (rw (c.deref.ensures, c.deref-in-Writes.ensures) at c.write_file.ensures) kept (Keeps-refl _)

pub returns-in-Serves : goal.returns-in-Serves
returns-in-Serves g c =
    let set = c.in-Serves.set in
    let quiet = c.in-Serves.quiet in
    let words = map string_bytes c.args.words.now in
    let (served, all, left, status) = c.serve_plainly.ensures in
    let is = set_to_serve (g.D.Documents.gives c.args.documents.now) words _ _ _ set quiet c.run_words.ensures c.in-Serves.is in
    let told = left_kept quiet _ _ _ served is.silent left in
    rw status
    (serves is.source set served is.asked is.is_set (served_kept set MAX_READS served _ _ _ _ _ is.unwritten all) (rw is.hushed at told))

pub returns-in-Keeps : goal.returns-in-Keeps
returns-in-Keeps g c =
    let digested = c.in-Keeps.digested in
    let is = set_to_keep (g.D.Documents.gives c.args.documents.now) (map string_bytes c.args.words.now) _ _ _ digested c.in-Keeps.quiet c.in-Keeps.path c.in-Keeps.comments
    c.run_words.ensures c.in-Keeps.is in
    keeps (string_bytes c.in-Keeps.path) is.cell is.certificate is.recipes c.in-Keeps.comments.echo c.in-Keeps.comments.times digested.set digested.documents.text c.serve_over_journal.result.0 is.asked is.is_set
    (journal_kept (record { disks = _; opens = g.D.Journals.opens c.args.documents.now }) digested.set digested.documents.text (string_bytes c.in-Keeps.path) _ _ _ _ _ _ is.unwritten (rw c.deref-in-Keeps.ensures at c.serve_over_journal.ensures))

pub returns-in-Remarks : goal.returns-in-Remarks
returns-in-Remarks g c =
    let course = c.in-Remarks in
    let words = map string_bytes c.args.words.now in
    let (served, all, left, status) = c.serve_with_comments.ensures in
    let (request, asked, is, hushed) = set_to_remark (g.D.Documents.gives c.args.documents.now) words _ _ _ course.set course.quiet course.comments c.run_words.ensures course.is in
    let told = left_kept course.quiet _ _ _ served is.silent left in
    rw status
    (remarks is.source course.comments.echo course.comments.times course.set served (rw (← is.asked) asked) is.is_set
    (remarked_kept course.set MAX_READS served _ _ _ _ _ is.unwritten all) (rw hushed at told))

pub returns-in-Reads : goal.returns-in-Reads
returns-in-Reads g c =
    let path = c.in-Reads.path in
    let (asked, kept, silent) = record_to_read (g.D.Documents.gives c.args.documents.now) (map string_bytes c.args.words.now) _ _ _ path c.run_words.ensures c.in-Reads.is in
    reads (option_map string_bytes path) c.print_record_state-status.result asked
    (record_kept (g.D.Records.holds c.args.documents.now) (option_map string_bytes path) _ _ _ _ _ _ _ _ _ kept silent c.print_record_state-status.ensures)

pub returns-in-Draws : goal.returns-in-Draws
returns-in-Draws g c =
    let path = c.in-Draws.path in
    let (asked, kept, silent) = record_to_draw (g.D.Documents.gives c.args.documents.now) (map string_bytes c.args.words.now) _ _ _ path c.run_words.ensures c.in-Draws.is in
    draws (option_map string_bytes path) c.draw_record_at-status.result asked
    (drawn_kept (g.D.Records.holds c.args.documents.now) (option_map string_bytes path) _ _ _ _ _ _ _ _ _ kept silent c.draw_record_at-status.ensures)

pub returns-in-Audits : goal.returns-in-Audits
returns-in-Audits g c =
    let course = c.in-Audits in
    let own = course.audit in
    let is = set_to_audit (g.D.Documents.gives c.args.documents.now) (map string_bytes c.args.words.now) _ _ _ course.set own c.run_words.ensures course.is in
    audits own.beginning (string_bytes own.path) (source_of own.source) course.set c.audit_record-status.result is.asked is.is_set
    (audit_kept (g.D.Records.holds c.args.documents.now) course.set own.beginning (string_bytes own.path) _ _ _ _ _ _ _ _ _ is.unwritten is.silent
    c.audit_record-status.ensures)

pub returns-in-Plants : goal.returns-in-Plants
returns-in-Plants g c =
    let course = c.in-Plants in
    let end = c.run_plant-end in
    let is =
    plant_to_run (g.D.Documents.gives c.args.documents.now) (map string_bytes c.args.words.now) _ _ _ course.set course.options
    c.run_words.ensures course.is in
    plants is.source course.set course.options end.result c.report_of_plant-status.result is.asked is.is_set (has_run course.set course.options end.result end.ensures)
    (told_kept _ _ _ _ _ _ course.options.batches end.result _ is.unwritten is.silent c.report_of_plant-status.ensures) (Keeps-refl _)

pub returns-in-ServesDesks : goal.returns-in-ServesDesks
returns-in-ServesDesks g c =
    let course = c.in-ServesDesks in
    let set = course.served.digested.set in
    let digits = course.served.digested.documents.text in
    let named = option_map string_bytes course.journal in
    let is = desks_to_serve (g.D.Documents.gives c.args.documents.now) (map string_bytes c.args.words.now) _ _ _ course.served course.quiet course.journal course.times c.run_words.ensures course.is in
    serves_desks named is.path is.cell is.certificate is.recipes course.times course.served.desks set digits c.run_desks-status.result is.asked is.cleared
    (desks_kept (record { disks = _; opens = g.D.Journals.opens c.args.documents.now }) set digits _ named course.times _ _ _ _ is.unwritten c.run_desks-status.ensures) (Keeps-refl _)
