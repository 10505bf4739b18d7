use Rattle.batch_verify.specs.PhaseSets.{AreKnownFrom}
use Rattle.batch_verify.proofs.tree_phases.tree_phases.Given as goal

abbrev pub invariant-loop-node : goal.invariant-loop-node
invariant-loop-node l = AreKnownFrom l.recipe.acts l.trees.items l.node
