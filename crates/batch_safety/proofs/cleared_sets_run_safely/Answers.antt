use Rattle.batch_safety.proofs.ClearedSets.{cleared_sets_run_safely}
use Rattle.batch_safety.proofs.cleared_sets_run_safely.Goals as goal

pub returns : goal.returns
returns c = cleared_sets_run_safely
