use Rattle.std.proofs.Common.{arith}
use Rattle.batch_examples.proofs.transfers.unit_is_lost.Goals as goal

pub returns-clause-reserved : goal.returns-clause-reserved
returns-clause-reserved c = λ h. grind (arith, h.reserved)

pub returns-clause-passed : goal.returns-clause-passed
returns-clause-passed c = λ h. grind (arith, h.passed)

pub returns-clause-elsewhere : goal.returns-clause-elsewhere
returns-clause-elsewhere c = λ h. grind (arith, h.passed)
