use Rattle.std.proofs.Common.{take}
use Rattle.batch_check.specs.Joining.{HasTaken}
use Rattle.batch_check.proofs.graph.add_each.Given as goal

abbrev pub invariant-loop-edge : goal.invariant-loop-edge
invariant-loop-edge l = HasTaken (take l.edge-index l.edges) l.fn.set l.set
