use Rattle.batch_journal.proofs.GroupLemmas.{go_on}
use Rattle.batch_journal.proofs.laws.groups_go_on.Goals as goal

pub returns : goal.returns
returns c = go_on
