use Rattle.batch_recipe.proofs.NodesAbove.{IsAbove}
use Rattle.batch_recipe.proofs.nodes.depth_of.Given as goal

abbrev pub invariant-loop-at : goal.invariant-loop-at
invariant-loop-at l = IsAbove l.recipe l.node l.at l.depth

abbrev pub decreases-loop-at : goal.decreases-loop-at
decreases-loop-at l = l.at
