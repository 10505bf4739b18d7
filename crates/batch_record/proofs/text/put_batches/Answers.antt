use Rattle.std.proofs.Common.{sym, subst}
use Rattle.std.specs.{List.Sorted.IsStrictlySortedBy, Ordering.nat_cmp}
use Rattle.batch_record.proofs.StateRows.{keys-kept}
use Rattle.batch_record.proofs.text.put_batches.Goals as goal

pub returns-clause-rise : goal.returns-clause-rise
returns-clause-rise c = subst (IsStrictlySortedBy nat_cmp) (sym (keys-kept c.args.batches.now.listed.entries)) c.iter-number-items.ensures.ordered
