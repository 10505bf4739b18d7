use Rattle.batch_arbiter.proofs.ListWithdrawal.{IsWalked}
use Rattle.batch_arbiter.proofs.pool.Pool.remove_behind.Given as goal

abbrev pub invariant-loop : goal.invariant-loop
invariant-loop l =
    IsWalked l.fn.self l.list l.batch l.most l.counter l.before l.left l.self-inside.entries.items l.self-inside.lists.items l.self-inside.free l.self-inside.room
