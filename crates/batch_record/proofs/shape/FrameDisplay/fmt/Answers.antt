use Rattle.batch_record.proofs.shape.FrameDisplay.fmt.Goals as goal

pub returns-clause-writes : goal.returns-clause-writes
returns-clause-writes g c = rw c.hatching-hatching.ensures at c.write.ensures.writes
