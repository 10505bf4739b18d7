use Rattle.batch_check.proofs.Names.{rank_in-name, ranks_rise_by_name}
use Rattle.batch_check.proofs.laws.ranks_are_told_by_name.Goals as goal

pub returns-clause-ranks : goal.returns-clause-ranks
returns-clause-ranks c = rank_in-name

pub returns-clause-rising : goal.returns-clause-rising
returns-clause-rising c = ranks_rise_by_name
