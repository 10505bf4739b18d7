use Rattle.std.proofs.Common.{take}
use Rattle.batch_check.specs.Collecting.{HasTakenBy}
use Rattle.batch_check.proofs.binding.add_taken.Given as goal

abbrev pub invariant-loop-edge : goal.invariant-loop-edge
invariant-loop-edge l = HasTakenBy l.units (take l.edge-index l.edges) l.fn.set l.set
