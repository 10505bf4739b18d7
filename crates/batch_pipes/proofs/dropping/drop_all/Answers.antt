use Rattle.std.proofs.Common.{refl}
use Rattle.batch_serve.specs.declared.{desk.ServedDesk.ServedDesk, rounds.Writer.Writer}
use Rattle.batch_pipes.proofs.DeskChanges.{handed_more, handed_some}
use Rattle.batch_pipes.proofs.dropping.drop_all.Goals as goal

pub loop-preserved : goal.loop-preserved
loop-preserved c =
    let desk : ServedDesk = record c.loop.desk { waiting = c.hand_on.new.self } in
    let writer : Writer = record c.loop.writer { ring = c.hand_on.new.ring } in
    handed_more c.args.desk.now c.loop.desk desk c.args.writer.now c.loop.writer writer c.loop.invariant
    (handed_some c.loop.desk desk c.loop.writer writer c.hand_on.ensures.ring refl c.hand_on.ensures.same_cut c.hand_on.ensures.account)
