use Rattle.batch_engine.specs.View.{plant_of, setup}
use Rattle.batch_wire.specs.EventLine.{event_of_line}
use Rattle.batch_keep.proofs.MemoryRefusals.{no_want}
use Rattle.batch_keep.proofs.wants.is_free.Goals as goal

pub returns-in_default : goal.returns-in_default
returns-in_default c = no_want (setup c.args.engine.now.cleared) (plant_of c.args.engine.now) c.args.told.now (event_of_line c.args.line.now) c.in_default.ensures
