use Rattle.batch_serve.proofs.ServedRuns.{runs_go_on, transcripts_go_on}
use Rattle.batch_serve.proofs.desks_laws.answers_go_on_safely.Goals as goal

pub returns-clause-lines : goal.returns-clause-lines
returns-clause-lines c = transcripts_go_on c.transcripts_join.ensures c.cleared_sets_run_safely.ensures

pub returns-clause-runs : goal.returns-clause-runs
returns-clause-runs c = runs_go_on c.transcripts_join.ensures c.cleared_sets_run_safely.ensures
