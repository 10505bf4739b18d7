use Rattle.std.proofs.Common.{◌≡◌, ◌+◌, ◌<◌, ℕ, length}
use Rattle.batch_arbiter.{specs.Linked.ends_at, proofs.PoolGrowth.empty_list}
use Rattle.batch_arbiter.proofs.pool.Pool.new.Given as goal

abbrev pub invariant-loop-list : goal.invariant-loop-list
invariant-loop-list l = (length l.entries.items ≡ l.list + 1) × (length l.ends.items ≡ l.list) × ((k : ℕ) → k < l.list → ends_at l.ends.items k ≡ empty_list k)
