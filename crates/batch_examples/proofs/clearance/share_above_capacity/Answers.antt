use Rattle.std.proofs.Common.{arith, []}
use Rattle.batch_examples.proofs.clearance.share_above_capacity.Goals as goal

pub returns-clause-more : goal.returns-clause-more
returns-clause-more c = λ rank h. grind (arith, (h.recipes.0.1 (λ role. []) tt).clear)
