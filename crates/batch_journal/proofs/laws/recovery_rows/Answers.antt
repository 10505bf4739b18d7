use Rattle.batch_journal.proofs.RecoveryRows.{rows}
use Rattle.batch_journal.proofs.laws.recovery_rows.Goals as goal

pub returns : goal.returns
returns c = rows
