use Rattle.batch_verdicts.specs.Reached.{AreReached}
use Rattle.batch_verdicts.proofs.rings.spread.Given as goal

abbrev pub invariant-loop-edge : goal.invariant-loop-edge
invariant-loop-edge l = AreReached l.edges l.start l.reached
