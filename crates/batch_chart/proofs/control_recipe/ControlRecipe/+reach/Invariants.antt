use Rattle.std.proofs.Common.{◌+◌, ◌-◌, ◌*◌, length}
use Rattle.batch_chart.proofs.control_recipe.ControlRecipe.+reach.Given as goal

abbrev pub decreases-reach : goal.decreases-reach
decreases-reach l = 2 * (length l.self.now.nodes.now - l.n)

abbrev pub decreases-reach_first : goal.decreases-reach_first
decreases-reach_first l = 2 * (length l.self.now.nodes.now - l.n) + 1

abbrev pub decreases-reach_each : goal.decreases-reach_each
decreases-reach_each l = 2 * (length l.self.now.nodes.now - l.n) + 1

abbrev pub decreases-reach_chosen : goal.decreases-reach_chosen
decreases-reach_chosen l = 2 * (length l.self.now.nodes.now - l.n) + 1
