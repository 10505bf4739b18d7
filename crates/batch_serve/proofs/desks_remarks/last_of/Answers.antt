use Rattle.std.proofs.Common.{arith}
use Rattle.batch_serve.proofs.RemarkedRuns.{run_seen}
use Rattle.batch_serve.proofs.desks_remarks.last_of.Goals as goal

pub loop-run-preserved : goal.loop-run-preserved
loop-run-preserved c = run_seen c.loop-run.last c.args.before _ c.args.runs.now c.loop-run.run-index c.desk.result c.run-item.result (omega arith) c.run-item.is c.desk.ensures c.loop-run.invariant
