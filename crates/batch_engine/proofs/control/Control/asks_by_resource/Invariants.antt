use Rattle.std.proofs.Common.{◌≤◌, ◌-◌}
use Rattle.batch_engine.proofs.LineAsks.{AreCounted}
use Rattle.batch_engine.proofs.control.Control.asks_by_resource.Given as goal

abbrev pub invariant-loop-node : goal.invariant-loop-node
invariant-loop-node l = (l.from ≤ 4096) × AreCounted l.self l.batch.number l.from l.asks

abbrev pub decreases-loop-node : goal.decreases-loop-node
decreases-loop-node l = 4096 - l.from
