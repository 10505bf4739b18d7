use Rattle.batch_serve.proofs.SettledTranscripts.{nobody_in_vain}
use Rattle.batch_serve.proofs.laws.transcripts_leave_nobody_in_vain.Goals as goal

pub returns : goal.returns
returns c = nobody_in_vain c.args.cleared.now c.cleared_runs_safely.ensures
