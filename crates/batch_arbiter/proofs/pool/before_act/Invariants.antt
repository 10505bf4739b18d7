use Rattle.batch_arbiter.proofs.ClaimSearch.{Seeks}
use Rattle.batch_arbiter.proofs.pool.before_act.Given as goal

abbrev pub invariant-loop : goal.invariant-loop
invariant-loop l = Seeks l.entries l.fn.ends l.batch l.node l.counter l.before
