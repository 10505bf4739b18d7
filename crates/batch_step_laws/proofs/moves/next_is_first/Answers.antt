use Rattle.batch_model.specs.Moves.{possible}
use Rattle.batch_step_laws.proofs.{FirstMove.next-IsFirst, MoveOrder.least-IsFirst}
use Rattle.batch_step_laws.proofs.moves.next_is_first.Goals as goal

pub returns : goal.returns
returns c = record { next = λ d s m. least-IsFirst (possible d s) m; first = next-IsFirst }
