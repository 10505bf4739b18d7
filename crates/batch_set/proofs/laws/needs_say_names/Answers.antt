use Rattle.batch_set.proofs.Sources.{needs-said}
use Rattle.batch_set.proofs.laws.needs_say_names.Goals as goal

pub returns : goal.returns
returns c = needs-said
