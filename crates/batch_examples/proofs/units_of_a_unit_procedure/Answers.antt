use Rattle.std.proofs.Common.{arith}
use Rattle.batch_examples.proofs.units_of_a_unit_procedure.Goals as goal

pub returns-clause-none : goal.returns-clause-none
returns-clause-none c = λ h. grind (arith, h.levels)

pub returns-clause-two : goal.returns-clause-two
returns-clause-two c = λ h. grind (arith, h.levels)
