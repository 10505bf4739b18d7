use Rattle.std.proofs.Common.{arith, []}
use Rattle.batch_examples.proofs.clearance.phase_is_not_offered.Goals as goal

pub returns : goal.returns
returns c = λ rank h. grind (arith, (h.recipes.0.1 (λ role. []) tt).clear)
