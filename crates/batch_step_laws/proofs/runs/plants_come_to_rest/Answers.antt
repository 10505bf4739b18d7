use Rattle.batch_step_laws.proofs.{PlantAlongRecord.led-stands, Settlement.settling-rests}
use Rattle.batch_step_laws.proofs.runs.plants_come_to_rest.Goals as goal

pub returns : goal.returns
returns c = λ d placed events outs s h. settling-rests d placed s (led-stands d placed events outs s h)
