use Rattle.batch_verdicts.proofs.TrimmedSets as sets
use Rattle.batch_verdicts.proofs.laws.sets_stay.Goals as goal

pub returns : goal.returns
returns c = sets.sets_stay
