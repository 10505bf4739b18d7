use Rattle.batch_serve.proofs.JoinedTranscripts.{transcripts_join}
use Rattle.batch_serve.proofs.desks_laws.transcripts_join.Goals as goal

pub returns : goal.returns
returns c = transcripts_join
