use Rattle.batch_record.proofs.Promises.{as-modelled}
use Rattle.batch_record.proofs.status_laws.tales_are_modelled.Goals as goal

pub returns : goal.returns
returns c = as-modelled
