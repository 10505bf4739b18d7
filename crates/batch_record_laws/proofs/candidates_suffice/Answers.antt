use Rattle.batch_record_laws.proofs.Candidates.{candidates_suffice}
use Rattle.batch_record_laws.proofs.candidates_suffice.Goals as goal

pub returns : goal.returns
returns c = candidates_suffice
