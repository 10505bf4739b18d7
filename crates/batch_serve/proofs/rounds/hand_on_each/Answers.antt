use Rattle.std.proofs.Common.{◌<◌, length, length-set, arith}
use Rattle.batch_serve.{specs.Rounds.IsCutIfLate, specs.Rounds.IsHandedOn, specs.declared.desk.ServedDesk.ServedDesk, specs.declared.rounds.Writer.Writer, proofs.DeskLines.each_more, proofs.DeskLines.kept_behind}
use Rattle.batch_serve.proofs.rounds.hand_on_each.Goals as goal

pub loop-desk-preserved : goal.loop-desk-preserved
loop-desk-preserved c =
    let so_far = c.loop-desk.invariant in
    let i = c.loop-desk.desk in
    let in_desks : i < length c.loop-desk.desks.items = omega (arith, so_far.count, so_far.writers, c.requires) in
    let in_writers : i < length c.loop-desk.writers.items = omega (arith, so_far.writers) in
    record {
      count = omega (arith, length-set {A = ServedDesk}, so_far.count);
      writers = omega (arith, length-set {A = Writer}, so_far.writers);
      handed = each_more IsHandedOn c.args.desks.now.items c.loop-desk.desks.items c.args.writers.now.items c.loop-desk.writers.items i c.index_mut.result.now c.hand_on.new.desk
          c.index_mut-writer.result.now c.hand_on.new.writer in_desks in_writers c.index_mut.ensures.value c.index_mut-writer.ensures.value c.hand_on.ensures.handed so_far.handed so_far.rest_desks
          so_far.rest_writers;
      late = each_more IsCutIfLate c.args.desks.now.items c.loop-desk.desks.items c.args.writers.now.items c.loop-desk.writers.items i c.index_mut.result.now c.hand_on.new.desk
          c.index_mut-writer.result.now c.hand_on.new.writer in_desks in_writers c.index_mut.ensures.value c.index_mut-writer.ensures.value c.hand_on.ensures.late so_far.late so_far.rest_desks
          so_far.rest_writers;
      rest_desks = kept_behind c.args.desks.now.items c.loop-desk.desks.items i c.hand_on.new.desk so_far.rest_desks;
      rest_writers = kept_behind c.args.writers.now.items c.loop-desk.writers.items i c.hand_on.new.writer so_far.rest_writers;
    }
