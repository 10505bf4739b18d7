use Rattle.std.proofs.Common.{take}
use Rattle.batch_check.specs.Mending.{TellRises}
use Rattle.batch_check.proofs.mending.rise_along_others.Given as goal

abbrev pub invariant-loop-edge : goal.invariant-loop-edge
invariant-loop-edge l = TellRises l.cell l.recipes (take l.edge-index l.edges) l.rise.items
