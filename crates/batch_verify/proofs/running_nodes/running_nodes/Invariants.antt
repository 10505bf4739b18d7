use Rattle.batch_recipe.specs.Procedure.{procedure_nodes}
use Rattle.batch_verify.specs.RunningNodes.{RunsFrom}
use Rattle.batch_verify.proofs.running_nodes.running_nodes.Given as goal

abbrev pub invariant-loop-node : goal.invariant-loop-node
invariant-loop-node l = RunsFrom (procedure_nodes l.recipe.acts) l.runs.items l.node
