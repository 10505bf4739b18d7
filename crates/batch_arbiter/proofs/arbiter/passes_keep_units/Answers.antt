use Rattle.batch_arbiter.proofs.SharesAndLines.{handed_over-sum}
use Rattle.batch_arbiter.proofs.arbiter.passes_keep_units.Goals as goal

pub returns : goal.returns
returns c = handed_over-sum
