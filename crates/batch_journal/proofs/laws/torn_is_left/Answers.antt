use Rattle.batch_journal.proofs.GroupLemmas.{torn}
use Rattle.batch_journal.proofs.laws.torn_is_left.Goals as goal

pub returns : goal.returns
returns c = torn
