use Rattle.batch_safety.proofs.ClearedSets.{cleared_sets_run_safely}
use Rattle.batch_safety.proofs.cleared_runs_safely.Goals as goal

pub returns : goal.returns
returns c = cleared_sets_run_safely c.args.cleared.now.cell c.args.cleared.now.recipes c.recipes-recipes.ensures.cleared
