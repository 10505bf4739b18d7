use Rattle.batch_serve.proofs.SettledTranscripts.{transcripts_settle}
use Rattle.batch_serve.proofs.laws.transcripts_settle.Goals as goal

pub returns : goal.returns
returns c = transcripts_settle
