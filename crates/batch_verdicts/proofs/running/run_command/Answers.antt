use Rattle.batch_verdicts.specs.Running.{halts}
use Rattle.batch_verdicts.proofs.running.run_command.Goals as goal

pub returns-in-Err : goal.returns-in-Err
returns-in-Err g c = halts c.in-Err.halt _ _ c.in-Err.ensures.0 (rw c.in-Err.ensures.1 at c.announce.ensures)
