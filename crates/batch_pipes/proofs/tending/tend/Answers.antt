use Rattle.std.proofs.Common.{◌∙◌}
use Rattle.batch_pipes.proofs.{DeskChanges.handed_then_kept, DeskChanges.kept_twice, WriterOutputs.output_on, Rings.producer_on}
use Rattle.batch_pipes.proofs.tending.tend.Goals as goal

pub returns-clause-desk : goal.returns-clause-desk
returns-clause-desk g c = handed_then_kept _ _ _ _ _ _ c.drop_unseen.ensures c.lines_left-left.ensures.ring c.lines_left-left.ensures.went (kept_twice _ _ _ c.cut_if_failed.ensures c.cut_if_stalled.ensures)

pub returns-clause-reader : goal.returns-clause-reader
returns-clause-reader g c = record { ring = c.poll-fault.ensures.ring; ended = c.poll-fault.ensures.ended }

pub returns-clause-output : goal.returns-clause-output
returns-clause-output g c =
    let writer = c.lines_left-left.new.writer in
    let on = output_on _ c.args.output.now c.args.writer.now writer
    (producer_on c.args.writer.now.ring c.drop_unseen.new.writer.ring writer.ring c.drop_unseen.ensures.ring c.lines_left-left.ensures.ring) c.requires in
    let kept = c.join_if_done.ensures writer (record { thread = on.thread; ended = on.ended; absent = on.absent }) in
    record { of = kept.of; asked = kept.asked }

pub returns-clause-done : goal.returns-clause-done
returns-clause-done g c = λ no_sends no_waits uncut.
    let kept = kept_twice _ _ _ c.cut_if_failed.ensures c.cut_if_stalled.ensures in
    (c.outlook_of.ensures.sends no_sends uncut, kept.waits uncut ∙ c.lines_left-left.ensures.none (c.outlook_of.ensures.waits no_waits uncut))
