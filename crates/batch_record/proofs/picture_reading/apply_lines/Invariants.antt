use Rattle.std.proofs.Common.{length}
use Rattle.batch_record.proofs.Lines.{HasTaken}
use Rattle.batch_record.proofs.picture_reading.apply_lines.Given as goal

abbrev pub invariant-loop-at : goal.invariant-loop-at
invariant-loop-at l = HasTaken l.text l.rest l.number

abbrev pub decreases-loop-at : goal.decreases-loop-at
decreases-loop-at l = length l.rest
