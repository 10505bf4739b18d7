use Rattle.batch_check.proofs.SpreadRounds.{KeepsSpreading}
use Rattle.batch_check.proofs.spreading.spread_on.Given as goal

abbrev pub invariant-loop-edge : goal.invariant-loop-edge
invariant-loop-edge l = KeepsSpreading l.edges l.start l.level l.initial.levels l.levels l.causes l.further l.edge-index
