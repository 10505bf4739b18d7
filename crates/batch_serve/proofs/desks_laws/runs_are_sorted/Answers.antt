use Rattle.batch_serve.proofs.DueAnswers.{runs_sorted}
use Rattle.batch_serve.proofs.desks_laws.runs_are_sorted.Goals as goal

pub returns : goal.returns
returns c = runs_sorted
