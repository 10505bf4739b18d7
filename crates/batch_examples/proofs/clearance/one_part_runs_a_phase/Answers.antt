use Rattle.std.proofs.Common.{arith, []}
use Rattle.batch_examples.proofs.clearance.one_part_runs_a_phase.Goals as goal

pub returns-clause-none_in_turn : goal.returns-clause-none_in_turn
returns-clause-none_in_turn c = λ rank h. grind (arith, (h.recipes.0.1 (λ role. []) tt).clear)

pub returns-clause-none_at_once : goal.returns-clause-none_at_once
returns-clause-none_at_once c = λ rank h. grind (arith, (h.recipes.0.1 (λ role. []) tt).clear)
