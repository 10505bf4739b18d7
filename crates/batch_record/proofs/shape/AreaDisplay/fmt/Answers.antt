use Rattle.batch_record.proofs.shape.AreaDisplay.fmt.Goals as goal

pub returns-clause-writes : goal.returns-clause-writes
returns-clause-writes g c = rw c.colour-colour.ensures at c.write.ensures.writes
