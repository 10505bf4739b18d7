use Rattle.std.proofs.Common.{arith, sym, ◌∙◌}
use Rattle.batch_arbiter.proofs.ClaimSearch.{before-within, next-within, Seeks-found, Seeks-more, none-behind}
use Rattle.batch_arbiter.proofs.pool.before_act.Goals as goal

pub bounds-entries-before : goal.bounds-entries-before
bounds-entries-before c = before-within _ _ _ _ _ _ c.loop.invariant c.requires.linked c.loop-test.true

pub bounds-entries-next : goal.bounds-entries-next
bounds-entries-next c = next-within _ _ _ _ _ _ c.loop.invariant c.requires.linked c.loop-test.true

pub returns-then-is_of-clause-some : goal.returns-then-is_of-clause-some
returns-then-is_of-clause-some c = Seeks-found _ _ _ _ _ _ c.loop.invariant c.loop-test.true (sym c.is_of.ensures ∙ c.if-is_of.true)

pub loop-preserved : goal.loop-preserved
loop-preserved c = Seeks-more _ _ _ _ _ _ c.loop.invariant (sym c.is_of.ensures ∙ c.if-is_of.false)

pub returns-clause-none : goal.returns-clause-none
returns-clause-none c = none-behind c.args.entries.now c.args.ends c.args.batch c.args.node (λ m h. c.loop.invariant.others m (omega (arith, h, c.loop-test.false)))
