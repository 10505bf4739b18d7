use Rattle.batch_step_laws.proofs.Settlement.{run-leads}
use Rattle.batch_step_laws.proofs.runs.runs_come_to_rest.Goals as goal

pub returns : goal.returns
returns c = run-leads
