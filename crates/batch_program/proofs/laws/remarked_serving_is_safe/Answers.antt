use Rattle.batch_program.proofs.RunsWithComments.{remarked_serving_is_safe}
use Rattle.batch_program.proofs.laws.remarked_serving_is_safe.Goals as goal

pub returns : goal.returns
returns g c = remarked_serving_is_safe _ _ _
