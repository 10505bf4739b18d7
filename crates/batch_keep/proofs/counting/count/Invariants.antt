use Rattle.std.proofs.Common.{length}
use Rattle.batch_keep.proofs.CountedLines.{Counted}
use Rattle.batch_keep.proofs.counting.count.Given as goal

abbrev pub invariant-loop-at : goal.invariant-loop-at
invariant-loop-at l = Counted l.all l.name l.documents l.text l.counted l.count l.rest

abbrev pub decreases-loop-at : goal.decreases-loop-at
decreases-loop-at l = length l.rest
