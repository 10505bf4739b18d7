use Rattle.batch_check.proofs.RaiseRounds.{circle_rules_out}
use Rattle.batch_check.proofs.laws.circle_leaves_no_ranking.Goals as goal

pub returns : goal.returns
returns c = circle_rules_out
