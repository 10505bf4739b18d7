use Rattle.std.proofs.Common.{length}
use Rattle.batch_keep.specs.Comparing.{IsCompared}
use Rattle.batch_keep.proofs.record.Record.compare.Given as goal

abbrev pub invariant-loop-left : goal.invariant-loop-left
invariant-loop-left l = IsCompared l.initial.self.count l.initial.self.rest.now l.due l.self.count l.self.rest.now l.left

abbrev pub decreases-loop-left : goal.decreases-loop-left
decreases-loop-left l = length l.left
