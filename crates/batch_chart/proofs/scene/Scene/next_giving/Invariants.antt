use Rattle.std.proofs.Common.{◌-◌, length}
use Rattle.batch_chart.specs.Nexts.{GivesNone}
use Rattle.batch_chart.proofs.scene.Scene.next_giving.Given as goal

abbrev pub invariant-loop-node : goal.invariant-loop-node
invariant-loop-node l = GivesNone l.fn.self.nodes.now l.fn.self.stages.now l.fn.self.signs.now l.from

abbrev pub decreases-loop-node : goal.decreases-loop-node
decreases-loop-node l = length l.self.signs.now - l.from
