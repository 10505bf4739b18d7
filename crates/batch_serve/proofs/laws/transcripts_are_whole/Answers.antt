use Rattle.batch_serve.proofs.TranscriptLines.{transcripts_are_whole}
use Rattle.batch_serve.proofs.laws.transcripts_are_whole.Goals as goal

pub returns : goal.returns
returns c = transcripts_are_whole
