-- private: the batches after the end of a `&mut` to one of them.
use Rattle.std.specs.Prelude.{ℕ}
use Rattle.std.specs.Borrow.{Lends, Fml, MutBor}
use Rattle.batch_engine.specs.Batches.{BatchList, with_batch_at}
use Rattle.batch_engine.specs.declared.batch.Batch.{Batch}
use Rattle.batch_engine.specs.contracts.batch.Batch as batch_contracts
use Rattle.batch_engine.specs.contracts.batches.Batches.{the_row}

-- once the borrow r ends, the last batch written through r is at the index
abbrev pub lends_batch : MutBor BatchList → ℕ → MutBor Batch → Fml
lends_batch s i r = Lends the_row batch_contracts.the_row s r (with_batch_at i s.now)
