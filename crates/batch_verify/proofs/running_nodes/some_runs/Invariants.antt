use Rattle.std.proofs.Common.{◌-◌}
use Rattle.batch_verify.proofs.RunningBranches.{KeepsSome}
use Rattle.batch_verify.proofs.running_nodes.some_runs.Given as goal

abbrev pub invariant-loop-node : goal.invariant-loop-node
invariant-loop-node l = KeepsSome l.recipe l.first l.end l.node

abbrev pub decreases-loop-node : goal.decreases-loop-node
decreases-loop-node l = l.end - l.node
