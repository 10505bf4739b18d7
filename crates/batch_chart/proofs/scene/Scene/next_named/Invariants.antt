use Rattle.std.proofs.Common.{◌≤◌, ◌-◌, length}
use Rattle.batch_chart.proofs.LivePhaseSigns.{NoneNamed}
use Rattle.batch_chart.proofs.scene.Scene.next_named.Given as goal

abbrev pub invariant-loop-node : goal.invariant-loop-node
invariant-loop-node l = record {
  onwards : l.fn.from ≤ l.at;
  none : NoneNamed l.fn.self.nodes.now l.fn.self.recipe.now l.fn.self.signs.now l.fn.from l.fn.phase l.at;
}

abbrev pub decreases-loop-node : goal.decreases-loop-node
decreases-loop-node l = length l.self.signs.now - l.at
