use Rattle.batch_step_laws.proofs.AdvancedRests.{advance-advanced, reach-advanced}
use Rattle.batch_step_laws.proofs.rests.advances_fully.Goals as goal

pub returns : goal.returns
returns c = record { reached = reach-advanced; advanced = advance-advanced }
