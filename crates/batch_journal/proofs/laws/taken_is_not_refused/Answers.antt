use Rattle.batch_journal.proofs.FilesWithoutRefusal.{not_refused}
use Rattle.batch_journal.proofs.laws.taken_is_not_refused.Goals as goal

pub returns : goal.returns
returns c = not_refused
