use Rattle.std.proofs.Common.{get_or}
use Rattle.batch_check.proofs.ShortestCircles.{WalksBack}
use Rattle.batch_check.proofs.shortest.circle_behind.Given as goal

abbrev pub invariant-loop-at : goal.invariant-loop-at
invariant-loop-at l = WalksBack l.edges l.start l.level l.levels l.walk.items l.at

abbrev pub decreases-loop-at : goal.decreases-loop-at
decreases-loop-at l = get_or l.levels l.at 0
