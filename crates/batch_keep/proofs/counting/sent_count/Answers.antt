use Rattle.std.proofs.Common.{[], ◌∙◌}
use Rattle.batch_keep.proofs.CountedLines.{count_of_all}
use Rattle.batch_keep.proofs.counting.sent_count.Goals as goal

pub returns : goal.returns
returns c = c.count.ensures ∙ count_of_all [] _
