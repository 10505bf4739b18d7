use Rattle.std.proofs.Common.{arith, []}
use Rattle.batch_examples.proofs.clearance.header_as_unit.Goals as goal

pub returns-clause-header : goal.returns-clause-header
returns-clause-header c = λ rank h. grind (arith, (h.recipes.0.1 (λ role. []) tt).clear)
