use Rattle.std.proofs.Common.{◌≡◌, ◌<◌, ℕ, List, length}
use Rattle.batch_chart.specs.{declared.stage.Stage.Stage, Climbing.IsRisen, Climbing.IsNeatlyRisen}
use Rattle.batch_chart.proofs.control_recipe.ControlRecipe.rise.Given as goal

abbrev pub invariant-loop-n : goal.invariant-loop-n
invariant-loop-n l = record {
  within : l.n < length l.self.nodes.now;
  fits : length l.signs ≡ length l.self.nodes.now;
  risen : (xs ws : List Stage) (ms : List ℕ) → IsRisen l.self.nodes.now l.self.master.now l.self.values.now xs ws l.node l.initial.stages → IsNeatlyRisen l.self.nodes.now l.self.master.now xs ms l.node l.initial.stages l.initial.signs
      → IsRisen l.self.nodes.now l.self.master.now l.self.values.now xs ws l.n l.stages × IsNeatlyRisen l.self.nodes.now l.self.master.now xs ms l.n l.stages l.signs;
}

abbrev pub decreases-loop-n : goal.decreases-loop-n
decreases-loop-n l = l.n
