use Rattle.std.proofs.Common.{take}
use Rattle.batch_check.specs.Collecting.{AreThose, is_of_role}
use Rattle.batch_check.proofs.binding.edges_of_roles.Given as goal

abbrev pub invariant-loop-edge : goal.invariant-loop-edge
invariant-loop-edge l = AreThose (is_of_role l.count) (take l.edge-index l.edges) l.of_roles.items
