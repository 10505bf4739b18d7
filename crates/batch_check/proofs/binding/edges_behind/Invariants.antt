use Rattle.std.proofs.Common.{take}
use Rattle.batch_check.specs.Collecting.{AreThose, is_behind}
use Rattle.batch_check.proofs.binding.edges_behind.Given as goal

abbrev pub invariant-loop-edge : goal.invariant-loop-edge
invariant-loop-edge l = AreThose (is_behind l.role) (take l.edge-index l.edges) l.behind.items
