use Rattle.batch_program.proofs.RunsOverJournal.{then_flushed}
use Rattle.batch_program.proofs.keeping.write_block.Goals as goal

pub returns-in-Ok : goal.returns-in-Ok
returns-in-Ok g c = then_flushed _ _ _ c.flush.result _ c.in-Ok.ensures c.flush.ensures
