use Rattle.batch_serve.proofs.ServedRuns.{is_safe}
use Rattle.batch_serve.proofs.desks_laws.service_is_safe.Goals as goal

pub returns : goal.returns
returns c = is_safe c.args.cleared.now c.transcripts_join.ensures c.transcripts_are_safe.ensures
