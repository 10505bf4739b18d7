use Rattle.batch_serve.proofs.SettledTranscripts.{transcripts_are_safe}
use Rattle.batch_serve.proofs.laws.transcripts_are_safe.Goals as goal

pub returns : goal.returns
returns c = transcripts_are_safe c.args.cleared.now c.cleared_runs_safely.ensures
