use Rattle.std.proofs.Common.{arith}
use Rattle.batch_serve.proofs.RemarkedRuns.{run_written}
use Rattle.batch_serve.proofs.desks_remarks.runs_text.Goals as goal

pub loop-run-preserved : goal.loop-run-preserved
loop-run-preserved c =
    run_written c.args.names.now c.loop-run.last c.args.runs.now c.loop-run.run-index c.desk-sender.result c.run-item.result c.loop-run.text.items c.push_from.new.text.items c.text.result.now c.extend_from_slice.new.self.items _
    (omega arith) c.run-item.is c.desk-sender.ensures c.text.ensures c.in_ok-push_from.ensures c.in_ok-extend_from_slice.ensures.items c.loop-run.invariant
