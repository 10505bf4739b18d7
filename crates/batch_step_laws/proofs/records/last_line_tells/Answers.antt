use Rattle.batch_step_laws.proofs.LastLineEffect.{active_told-last, holders_told-last, state_told-last, waiters_told-last}
use Rattle.batch_step_laws.proofs.records.last_line_tells.Goals as goal

pub returns : goal.returns
returns c = record { holders = holders_told-last; waiters = waiters_told-last; active = active_told-last; state = state_told-last }
