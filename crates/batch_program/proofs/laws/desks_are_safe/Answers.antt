use Rattle.batch_program.proofs.DeskService.{desks_are_safe}
use Rattle.batch_program.proofs.laws.desks_are_safe.Goals as goal

pub returns : goal.returns
returns g c = desks_are_safe _ _ _
