use Rattle.batch_program.proofs.ProgramRuns.{serving_is_safe}
use Rattle.batch_program.proofs.laws.serving_is_safe.Goals as goal

pub returns : goal.returns
returns g c = serving_is_safe _ _ _
