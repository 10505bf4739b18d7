use Rattle.std.proofs.Common.{length}
use Rattle.batch_chart.proofs.scene.Scene.+first_shown.Given as goal

abbrev pub decreases-first_shown : goal.decreases-first_shown
decreases-first_shown l = length l.states.now
