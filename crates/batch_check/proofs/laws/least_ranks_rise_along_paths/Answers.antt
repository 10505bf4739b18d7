use Rattle.batch_check.proofs.RanksAlongPaths.{least_ranks_rise}
use Rattle.batch_check.proofs.laws.least_ranks_rise_along_paths.Goals as goal

pub returns : goal.returns
returns c = least_ranks_rise
