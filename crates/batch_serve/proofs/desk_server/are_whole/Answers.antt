use Rattle.std.proofs.Common.{arith}
use Rattle.batch_serve.proofs.ServerAccounts.{whole_so_far}
use Rattle.batch_serve.proofs.desk_server.are_whole.Goals as goal

pub loop-run-preserved : goal.loop-run-preserved
loop-run-preserved c = record {
  whole = whole_so_far c.args.runs.now c.loop-run.run-index c.run-item.result c.text.result.now (omega arith) c.run-item.is c.text.ensures
      c.loop-run.invariant.whole (c.are_whole_lines.ensures c.if-not-are_whole_lines.false);
}
