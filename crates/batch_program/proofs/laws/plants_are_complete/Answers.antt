use Rattle.batch_program.proofs.ProgramRuns.{plants_are_complete}
use Rattle.batch_program.proofs.laws.plants_are_complete.Goals as goal

pub returns : goal.returns
returns g c = plants_are_complete _ _ _
