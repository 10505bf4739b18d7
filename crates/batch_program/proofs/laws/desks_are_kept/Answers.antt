use Rattle.batch_program.proofs.RepeatedDeskAnswers.{desks_are_kept}
use Rattle.batch_program.proofs.laws.desks_are_kept.Goals as goal

pub returns : goal.returns
returns g c = desks_are_kept c.desks_are_told_again.ensures c.answers_go_on_safely.ensures.runs _ _ _
