use Rattle.std.proofs.Common.{sym, ◌∙◌}
use Rattle.batch_engine.specs.View.{setup, plant_of}
use Rattle.batch_keep.proofs.{AnswersToLines.served_known, AnswersToLines.tells_known, RepeatedAnswers.again, RepeatedAnswers.all_given}
use Rattle.batch_keep.proofs.serving.serve_at.Goals as goal

pub returns-clause-served : goal.returns-clause-served
returns-clause-served g c = served_known _ _ c.serve-result.result _ c.new-reader.ensures.remaining c.serve-result.ensures.served

pub returns-clause-told : goal.returns-clause-told
returns-clause-told g c = λ d known all is.
    let did = c.serve-result.ensures in
    tells_known (setup c.args.engine.now.cleared) (plant_of c.args.engine.now) _ c.serve-result.result _ _ _ _ _ all _
    c.new-reader.ensures.remaining (sym known ∙ is) (c.into_disk.ensures.accounted d all is) (c.into_disk.ensures.whole d) (c.into_disk.ensures.lines d)
    (record { served = did.served; ended = did.ended; read_fault = did.read_fault; too_many_reads = did.too_many_reads; write_fault = did.write_fault_read })

pub returns-clause-again : goal.returns-clause-again
returns-clause-again g c = λ d known all start is base.
    let did = c.serve-result.ensures in
    let disk = c.into_disk.result in
    let tells = tells_known (setup c.args.engine.now.cleared) (plant_of c.args.engine.now) _ c.serve-result.result _ _ _ _ _ all _
    c.new-reader.ensures.remaining (sym known ∙ is) (c.into_disk.ensures.accounted d all is) (c.into_disk.ensures.whole d) (c.into_disk.ensures.lines d)
    (record { served = did.served; ended = did.ended; read_fault = did.read_fault; too_many_reads = did.too_many_reads; write_fault = did.write_fault_read }) in
    let recalled = c.into_disk.ensures.recalled d in
    again (setup c.args.engine.now.cleared) (plant_of c.args.engine.now) g.C.JournalRun.documents g.C.JournalRun.base start _ _ _ _ _ c.recovered_are_lines.ensures.recovered c.lines_begin.ensures c.want_is_not_told.ensures base tells
    (λ left may. recalled.each _ (g.met.D.Disk.counts_now disk g.C.JournalRun.since (record { file = left.file; given = g.D.Disk.given disk }) d recalled.later (all_given _ _ _ left may)))
