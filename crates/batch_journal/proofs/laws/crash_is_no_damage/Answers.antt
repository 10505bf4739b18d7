use Rattle.batch_journal.proofs.DamageLemmas.{no_damage}
use Rattle.batch_journal.proofs.laws.crash_is_no_damage.Goals as goal

pub returns : goal.returns
returns c = no_damage
