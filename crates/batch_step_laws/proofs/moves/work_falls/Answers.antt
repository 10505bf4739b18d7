use Rattle.batch_step_laws.proofs.WorkAfterMove.{possible-falls}
use Rattle.batch_step_laws.proofs.moves.work_falls.Goals as goal

pub returns : goal.returns
returns c = possible-falls
