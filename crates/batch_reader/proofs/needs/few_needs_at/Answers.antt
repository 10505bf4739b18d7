use Rattle.batch_reader.{specs.Entries.IsNeedItem, proofs.OneEntry.few_refused, proofs.NeedFaults.too_many_needs}
use Rattle.std.proofs.Common.{refl}
use Rattle.batch_reader.proofs.needs.few_needs_at.Goals as goal

pub returns-then-values-most-clause-refused : goal.returns-then-values-most-clause-refused
returns-then-values-most-clause-refused c = λ _. few_refused IsNeedItem _ _ c.in_ok-values.values.now c.args.most c.in_ok-values.ensures.ok c.if-values-most.true

pub returns-then-values-most-clause-told : goal.returns-then-values-most-clause-told
returns-then-values-most-clause-told c = (refl, too_many_needs c.args.key _ c.args.most c.in_ok-values.values.now c.in_ok-values.ensures.ok c.if-values-most.true)
