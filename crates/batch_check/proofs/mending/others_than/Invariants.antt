use Rattle.std.proofs.Common.{take}
use Rattle.batch_check.specs.Mending.{AreOtherEdges}
use Rattle.batch_check.proofs.mending.others_than.Given as goal

abbrev pub invariant-loop-other : goal.invariant-loop-other
invariant-loop-other l = AreOtherEdges (take l.other-index l.edges) l.edge l.others.items
