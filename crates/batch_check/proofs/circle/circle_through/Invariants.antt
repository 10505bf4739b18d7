use Rattle.std.proofs.Common.{length, ◌-◌}
use Rattle.batch_check.proofs.Walks.{Walks}
use Rattle.batch_check.proofs.circle.circle_through.Given as goal

abbrev pub invariant-loop-end : goal.invariant-loop-end
invariant-loop-end l = Walks l.edges l.ranks l.walk.items l.at

abbrev pub decreases-loop-end : goal.decreases-loop-end
decreases-loop-end l = length l.ranks - length l.walk.items
