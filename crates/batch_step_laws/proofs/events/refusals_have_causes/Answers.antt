use Rattle.batch_step_laws.proofs.Refusals.{refusal-just}
use Rattle.batch_step_laws.proofs.events.refusals_have_causes.Goals as goal

pub returns : goal.returns
returns c = λ d s t e x h. (refusal-just d s e x t h).1
