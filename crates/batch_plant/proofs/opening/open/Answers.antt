use Rattle.batch_plant.proofs.opening.open.Goals as goal

pub returns-clause-cleared : goal.returns-clause-cleared
returns-clause-cleared c = rw c.in-Ok.ensures.cleared at c.open_hub.ensures.cleared
