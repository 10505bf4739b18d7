use Rattle.std.proofs.Common.{arith, eq-eqb}
use Rattle.batch_arbiter.{specs.Linked.entry_claim, specs.Linked.list_at, proofs.ListWithdrawal.none-first, proofs.ListWithdrawal.thinned-first, proofs.ListWithdrawal.thinned-none}
use Rattle.batch_arbiter.proofs.pool.Pool.remove_batch.Goals as goal

pub returns-then-most-eq0 : goal.returns-then-most-eq0
returns-then-most-eq0 c = thinned-none c.args.self.now c.args.list c.args.batch (omega (arith, c.requires.most, c.if-most-eq0.true))

pub returns-in_default : goal.returns-in_default
returns-in_default c = thinned-none c.args.self.now c.args.list c.args.batch (none-first c.args.batch (list_at c.args.self.now c.args.list) c.in_default.ensures)

pub returns-then-first-batch : goal.returns-then-first-batch
returns-then-first-batch c =
    thinned-first c.args.self.now c.remove_behind.new.self c.take_first.new.self c.args.list c.args.batch (list_at c.args.self.now c.args.list) (entry_claim c.in-Some.first)
    c.requires.known c.in-Some.ensures (eq-eqb _ _ c.if-first-batch.true) c.remove_behind.ensures c.take_first.ensures.after
