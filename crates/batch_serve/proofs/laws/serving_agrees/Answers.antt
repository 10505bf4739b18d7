use Rattle.batch_serve.proofs.Replays.{serving_agrees}
use Rattle.batch_serve.proofs.laws.serving_agrees.Goals as goal

pub returns : goal.returns
returns c = serving_agrees
