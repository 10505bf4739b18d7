use Rattle.batch_check.proofs.ShortestCircles.{KeepsFewest}
use Rattle.batch_check.proofs.shortest.shortest_circle.Given as goal

abbrev pub invariant-loop-start : goal.invariant-loop-start
invariant-loop-start l = KeepsFewest l.edges l.shortest.items l.start
