use Rattle.batch_set.proofs.PhaseNumbers.{phases-said}
use Rattle.batch_set.proofs.laws.phases_say_names.Goals as goal

pub returns : goal.returns
returns c = phases-said
