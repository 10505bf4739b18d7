use Rattle.std.proofs.Common.{arith, []}
use Rattle.batch_examples.proofs.transfers.other_is_not_reserved.Goals as goal

pub returns-clause-early : goal.returns-clause-early
returns-clause-early c = λ h. grind (arith, (h.1.recipes.0.1 (λ role. []) tt).follow)

pub returns-clause-beside : goal.returns-clause-beside
returns-clause-beside c = λ h. grind (arith, (h.1.recipes.0.1 (λ role. []) tt).follow)

pub returns-clause-in_parallel : goal.returns-clause-in_parallel
returns-clause-in_parallel c = λ h. grind (arith, (h.1.recipes.0.1 (λ role. []) tt).follow)

pub returns-clause-before : goal.returns-clause-before
returns-clause-before c = λ h. grind (arith, (h.1.recipes.0.1 (λ role. []) tt).follow)
