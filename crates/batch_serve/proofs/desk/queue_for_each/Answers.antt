use Rattle.std.proofs.Common.{arith, length-set}
use Rattle.batch_serve.{specs.declared.desk.ServedDesk.ServedDesk, proofs.AnswersToDesks.told_more, proofs.AnswersToDesks.kept_more}
use Rattle.batch_serve.proofs.desk.queue_for_each.Goals as goal

pub loop-desk-preserved : goal.loop-desk-preserved
loop-desk-preserved c =
    let so_far = c.loop-desk.invariant in
    record {
      count = omega (arith, length-set {A = ServedDesk}, so_far.count);
      told = told_more c.args.answers.now c.args.desks.now.items c.loop-desk.desks.items c.loop-desk.desk c.index_mut.result.now c.queue_answers.new.self (omega (arith, so_far.count)) c.index_mut.ensures.value c.queue_answers.ensures so_far.told so_far.rest;
      rest = kept_more c.args.desks.now.items c.loop-desk.desks.items c.loop-desk.desk c.queue_answers.new.self so_far.rest;
    }
