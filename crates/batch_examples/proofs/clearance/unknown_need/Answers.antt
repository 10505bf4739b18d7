use Rattle.std.proofs.Common.{arith, []}
use Rattle.batch_examples.proofs.clearance.unknown_need.Goals as goal

pub returns-clause-procedure : goal.returns-clause-procedure
returns-clause-procedure c = λ rank h. grind (arith, (h.recipes.0.1 (λ role. []) tt).clear)

pub returns-clause-unit_procedure : goal.returns-clause-unit_procedure
returns-clause-unit_procedure c = λ rank h. grind (arith, (h.recipes.0.1 (λ role. []) tt).clear)

pub returns-clause-operation : goal.returns-clause-operation
returns-clause-operation c = λ rank h. grind (arith, (h.recipes.0.1 (λ role. []) tt).clear)

pub returns-clause-step : goal.returns-clause-step
returns-clause-step c = λ rank h. grind (arith, (h.recipes.0.1 (λ role. []) tt).clear)
