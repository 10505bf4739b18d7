use Rattle.batch_record_laws.proofs.Replays.{replays_agree}
use Rattle.batch_record_laws.proofs.replays_agree.Goals as goal

pub returns : goal.returns
returns c = replays_agree
