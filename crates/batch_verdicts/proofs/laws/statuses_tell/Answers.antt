use Rattle.batch_verdicts.proofs.Successes.{success_is_told, cleared_sets_are_served, no_command_serves}
use Rattle.batch_verdicts.proofs.laws.statuses_tell.Goals as goal

pub returns-clause-success : goal.returns-clause-success
returns-clause-success g c = success_is_told _

pub returns-clause-served : goal.returns-clause-served
returns-clause-served g c = cleared_sets_are_served _

pub returns-clause-serving : goal.returns-clause-serving
returns-clause-serving g c = no_command_serves _
