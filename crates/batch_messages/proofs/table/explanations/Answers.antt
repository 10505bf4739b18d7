use Rattle.std.proofs.Common.{refl}
use Rattle.batch_messages.proofs.table.explanations.Goals as goal

pub returns : goal.returns
returns c = refl
