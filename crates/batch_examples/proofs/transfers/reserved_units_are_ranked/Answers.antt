use Rattle.std.proofs.Common.{arith, []}
use Rattle.batch_examples.proofs.transfers.reserved_units_are_ranked.Goals as goal

pub returns-clause-opposite : goal.returns-clause-opposite
returns-clause-opposite c = λ h. grind (arith, (h.1.recipes.0.1 (λ role. []) tt).clear, (h.1.recipes.1.0.1 (λ role. []) tt).clear)

pub returns-clause-same : goal.returns-clause-same
returns-clause-same c = λ h. grind (arith, (h.1.recipes.0.1 (λ role. []) tt).clear)
