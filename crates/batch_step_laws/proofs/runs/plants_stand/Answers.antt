use Rattle.batch_step_laws.proofs.PlantAlongRecord.{led-stands}
use Rattle.batch_step_laws.proofs.runs.plants_stand.Goals as goal

pub returns : goal.returns
returns c = led-stands
