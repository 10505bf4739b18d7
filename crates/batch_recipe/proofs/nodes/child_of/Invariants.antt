use Rattle.std.proofs.Common.{◌-◌}
use Rattle.batch_recipe.proofs.NodesBelow.{KeepsLooking}
use Rattle.batch_recipe.proofs.nodes.child_of.Given as goal

abbrev pub invariant-loop-at : goal.invariant-loop-at
invariant-loop-at l = KeepsLooking l.recipe l.node l.child l.at

abbrev pub decreases-loop-at : goal.decreases-loop-at
decreases-loop-at l = l.end - l.at
