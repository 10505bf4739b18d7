use Rattle.batch_keep.proofs.starting.start.Goals as goal

pub returns-clause-block : goal.returns-clause-block
returns-clause-block g c = let started = c.in_ok-started.ensures.blocks in (started.0, started.1.output, started.2)
