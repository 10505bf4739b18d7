use Rattle.batch_serve.proofs.Replays.{want_is_not_told}
use Rattle.batch_serve.proofs.laws.want_is_not_told.Goals as goal

pub returns : goal.returns
returns c = want_is_not_told
