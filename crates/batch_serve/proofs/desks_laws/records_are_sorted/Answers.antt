use Rattle.batch_serve.proofs.DueLines.{records_are_sorted}
use Rattle.batch_serve.proofs.desks_laws.records_are_sorted.Goals as goal

pub returns : goal.returns
returns c = records_are_sorted
