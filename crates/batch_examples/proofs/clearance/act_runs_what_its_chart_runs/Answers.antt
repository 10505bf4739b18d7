use Rattle.std.proofs.Common.{arith, []}
use Rattle.batch_examples.proofs.clearance.act_runs_what_its_chart_runs.Goals as goal

pub returns-clause-nothing : goal.returns-clause-nothing
returns-clause-nothing c = λ rank h. grind (arith, (h.recipes.0.1 (λ role. []) tt).clear)
