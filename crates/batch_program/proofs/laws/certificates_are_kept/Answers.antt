use Rattle.batch_program.proofs.FileRuns.{certificates_are_kept}
use Rattle.batch_program.proofs.laws.certificates_are_kept.Goals as goal

pub returns : goal.returns
returns g c = certificates_are_kept _ _ _
