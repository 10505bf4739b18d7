use Rattle.batch_serve.proofs.PassedText.{tells_clear}
use Rattle.batch_serve.proofs.held.Held.into_inner.Goals as goal

pub returns : goal.returns
returns g c = λ held known. tells_clear _ _ _ held _ known c.args.self.told
