use Rattle.std.proofs.Common.{arith}
use Rattle.batch_serve.proofs.ServerAccounts.{no_want_so_far}
use Rattle.batch_serve.proofs.desk_server.any_shows_want.Goals as goal

pub loop-answer-preserved : goal.loop-answer-preserved
loop-answer-preserved c = record {
  none = no_want_so_far c.args.answers.now c.loop-answer.answer-index c.answer-item.result c.text.result.now (omega arith) c.answer-item.is c.text.ensures
      c.loop-answer.invariant.none (c.shows_want.ensures.none c.if-shows_want.false);
}
