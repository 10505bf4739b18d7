use Rattle.batch_journal.proofs.GroupLemmas.{is_taken}
use Rattle.batch_journal.proofs.laws.group_is_taken.Goals as goal

pub returns : goal.returns
returns c = is_taken
