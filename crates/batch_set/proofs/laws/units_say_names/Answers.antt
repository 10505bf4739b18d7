use Rattle.batch_set.proofs.Sources.{units-said}
use Rattle.batch_set.proofs.laws.units_say_names.Goals as goal

pub returns : goal.returns
returns c = units-said
