use Rattle.std.proofs.Common.{arith}
use Rattle.batch_chart.proofs.EndedActSigns.{cleared-none, cleared-next, cleared-end}
use Rattle.batch_chart.proofs.freeing.clear.Goals as goal

pub loop-n-init : goal.loop-n-init
loop-n-init c = cleared-none _ _ _

pub loop-n-preserved : goal.loop-n-preserved
loop-n-preserved c = rw c.replace.ensures (cleared-next _ _ _ _ _ _ (omega arith) (omega arith) c.loop-n.invariant)

pub returns : goal.returns
returns c = cleared-end _ _ _ _ _ _ _ (omega arith) c.loop-n.invariant
