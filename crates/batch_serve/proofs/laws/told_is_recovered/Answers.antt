use Rattle.batch_serve.proofs.Replays.{told_is_recovered}
use Rattle.batch_serve.proofs.laws.told_is_recovered.Goals as goal

pub returns : goal.returns
returns c = told_is_recovered
