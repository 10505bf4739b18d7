use Rattle.std.proofs.Common.{arith}
use Rattle.batch_chart.proofs.StartAndWithdrawal.{finished-more}
use Rattle.batch_chart.proofs.starting.finish_all.Goals as goal

pub loop-n-preserved : goal.loop-n-preserved
loop-n-preserved c = finished-more _ _ (omega arith) c.loop-n.invariant

pub returns : goal.returns
returns c = λ k a b. c.loop-n.invariant k a (omega arith)
