use Rattle.batch_model.specs.Moves.{possible}
use Rattle.batch_step_laws.proofs.MoveOrder.{least-IsLeast, none_least}
use Rattle.batch_step_laws.proofs.moves.next_is_least.Goals as goal

pub returns : goal.returns
returns c = record { least = λ d s m. least-IsLeast (possible d s) m; none = λ d s. none_least (possible d s) }
