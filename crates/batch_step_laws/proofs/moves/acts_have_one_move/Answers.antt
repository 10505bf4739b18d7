use Rattle.batch_step_laws.proofs.FirstMove.{possible-one}
use Rattle.batch_step_laws.proofs.moves.acts_have_one_move.Goals as goal

pub returns : goal.returns
returns c = possible-one
