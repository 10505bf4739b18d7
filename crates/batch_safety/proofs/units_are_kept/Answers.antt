use Rattle.batch_record_laws.proofs.ClearanceOverNodes.{cleared-down}
use Rattle.batch_safety.proofs.UnitsAlongRecord.{units-kept}
use Rattle.batch_safety.proofs.units_are_kept.Goals as goal

pub returns : goal.returns
returns c setup rank kept cleared = units-kept setup rank (cleared-down setup rank kept cleared)
