use Rattle.std.proofs.Common.{rules}
use Rattle.batch_journal.proofs.group.is_time.Goals as goal

pub returns-then-bytes-le20 : goal.returns-then-bytes-le20
returns-then-bytes-le20 c = search rules
