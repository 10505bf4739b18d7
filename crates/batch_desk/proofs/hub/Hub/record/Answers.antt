use Rattle.batch_desk.proofs.RecordSafety.{safe_record}
use Rattle.batch_desk.proofs.hub.Hub.record.Goals as goal

pub returns-clause-safe : goal.returns-clause-safe
returns-clause-safe c = safe_record _ _ _ c.self.view_is c.cleared.ensures.value c.self.invariant c.cleared_runs_safely.ensures
