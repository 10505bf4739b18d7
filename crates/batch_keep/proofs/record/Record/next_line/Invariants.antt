use Rattle.std.proofs.Common.{[], length}
use Rattle.batch_keep.specs.Comparing.{IsCompared}
use Rattle.batch_keep.proofs.record.Record.next_line.Given as goal

abbrev pub invariant-loop-at : goal.invariant-loop-at
invariant-loop-at l = IsCompared l.initial.self.count l.initial.self.rest.now [] l.self.count l.self.rest.now []

abbrev pub decreases-loop-at : goal.decreases-loop-at
decreases-loop-at l = length l.self.rest.now
