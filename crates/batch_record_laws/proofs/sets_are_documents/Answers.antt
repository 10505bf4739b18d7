use Rattle.batch_record_laws.proofs.Sets.{sets_are_documents}
use Rattle.batch_record_laws.proofs.sets_are_documents.Goals as goal

pub returns : goal.returns
returns c = sets_are_documents
