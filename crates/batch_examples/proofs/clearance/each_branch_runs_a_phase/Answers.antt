use Rattle.std.proofs.Common.{arith, []}
use Rattle.batch_examples.proofs.clearance.each_branch_runs_a_phase.Goals as goal

pub returns-clause-first : goal.returns-clause-first
returns-clause-first c = λ rank h. grind (arith, (h.recipes.0.1 (λ role. []) tt).clear)

pub returns-clause-last : goal.returns-clause-last
returns-clause-last c = λ rank h. grind (arith, (h.recipes.0.1 (λ role. []) tt).clear)
