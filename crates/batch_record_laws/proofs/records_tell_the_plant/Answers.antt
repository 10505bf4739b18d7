use Rattle.batch_record_laws.proofs.{PlantByRecord.tells_the_plant, ClearanceOverNodes.cleared-down}
use Rattle.batch_record_laws.proofs.records_tell_the_plant.Goals as goal

pub returns : goal.returns
returns c setup rank kept cleared = tells_the_plant setup rank (cleared-down setup rank kept cleared)
