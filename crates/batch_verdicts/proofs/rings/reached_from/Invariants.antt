use Rattle.batch_verdicts.specs.Reached.{AreReached}
use Rattle.batch_verdicts.proofs.rings.reached_from.Given as goal

abbrev pub invariant-loop-round : goal.invariant-loop-round
invariant-loop-round l = AreReached l.edges l.start l.reached.items
