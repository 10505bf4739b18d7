use Rattle.batch_step_laws.proofs.RecordGrowth.{Leads-move, Leads-reply}
use Rattle.batch_step_laws.proofs.runs.records_go_on.Goals as goal

pub returns : goal.returns
returns c = record { by_moves = Leads-move; by_replies = Leads-reply }
