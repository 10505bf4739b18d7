use Rattle.std.proofs.Common.{◌+◌}
use Rattle.batch_check.proofs.RaiseRounds.{Rounds}
use Rattle.batch_check.proofs.ranking.least_ranks.Given as goal

abbrev pub invariant-loop-round : goal.invariant-loop-round
invariant-loop-round l = Rounds l.fn.count l.edges l.ranks.items l.causes.items (l.round + 1)
