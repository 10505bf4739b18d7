use Rattle.std.proofs.Common.{arith, []}
use Rattle.batch_examples.proofs.clearance.every_turn_runs_a_phase.Goals as goal

pub returns : goal.returns
returns c = λ h. grind (arith, (h.1.recipes.0.1 (λ role. []) tt).clear)
