use Rattle.std.proofs.Common.{◌≡◌}
use Rattle.batch_arbiter.proofs.AskWithdrawal.{withdrawn_to}
use Rattle.batch_arbiter.proofs.arbiter.Arbiter.withdraw.Given as goal

abbrev pub invariant-loop-resource : goal.invariant-loop-resource
invariant-loop-resource l =
    (l.self-inside.pool ≡ withdrawn_to l.resources l.batch l.resource l.initial.self-inside.pool)
    × (l.self-inside.capacities ≡ l.initial.self-inside.capacities)
    × (l.self-inside.held ≡ l.initial.self-inside.held)
