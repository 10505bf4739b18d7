use Rattle.std.proofs.Common.{arith, []}
use Rattle.batch_examples.proofs.clearance.opposite_orders.Goals as goal

pub returns-clause-both : goal.returns-clause-both
returns-clause-both c = λ h. grind (arith, (h.1.recipes.0.1 (λ role. []) tt).clear, (h.1.recipes.1.0.1 (λ role. []) tt).clear)

pub returns-clause-equal : goal.returns-clause-equal
returns-clause-equal c = λ h. grind (arith, (h.recipes.0.1 (λ role. []) tt).clear)
