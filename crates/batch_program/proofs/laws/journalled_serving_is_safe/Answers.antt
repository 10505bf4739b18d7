use Rattle.batch_program.proofs.SafeJournals.{journalled_serving_is_safe}
use Rattle.batch_program.proofs.laws.journalled_serving_is_safe.Goals as goal

pub returns : goal.returns
returns g c = journalled_serving_is_safe c.answers_go_on_safely.ensures.lines _ _ _
