use Rattle.batch_serve.proofs.Replays.{no_want_is_well}
use Rattle.batch_serve.proofs.laws.no_want_is_well.Goals as goal

pub returns : goal.returns
returns c = no_want_is_well
