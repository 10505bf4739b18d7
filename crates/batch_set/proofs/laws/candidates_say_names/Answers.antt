use Rattle.batch_set.proofs.CandidateNumbers.{candidates-said}
use Rattle.batch_set.proofs.laws.candidates_say_names.Goals as goal

pub returns : goal.returns
returns c = candidates-said
