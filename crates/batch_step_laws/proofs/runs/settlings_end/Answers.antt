use Rattle.std.proofs.Common.{arith}
use Rattle.batch_model.specs.Runs.{work_left}
use Rattle.batch_step_laws.proofs.{PlantAlongRecord.led-stands, Settlement.settling-ends}
use Rattle.batch_step_laws.proofs.runs.settlings_end.Goals as goal

pub returns : goal.returns
returns c = λ d placed events outs s h. settling-ends d placed (work_left s) s (led-stands d placed events outs s h) (omega arith)
