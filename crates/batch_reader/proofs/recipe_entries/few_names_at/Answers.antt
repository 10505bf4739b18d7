use Rattle.std.proofs.Common.{refl}
use Rattle.batch_reader.{proofs.OneEntry.few_refused, proofs.OneEntry.few_names_fault-long, proofs.OneEntry.few_names_fault-short, specs.Entries.IsNameItem}
use Rattle.batch_reader.proofs.recipe_entries.few_names_at.Goals as goal

pub returns-then-values-most-clause-refused : goal.returns-then-values-most-clause-refused
returns-then-values-most-clause-refused c = λ _. few_refused IsNameItem _ _ c.in_ok-values.values.now c.args.most c.in_ok-values.ensures.ok c.if-values-most.true

pub returns-then-values-most-clause-told : goal.returns-then-values-most-clause-told
returns-then-values-most-clause-told c =
    (refl, few_names_fault-long _ c.args.most _ c.in_ok-values.values.now c.in_ok-values.ensures.ok c.if-values-most.true)

pub returns-clause-told : goal.returns-clause-told
returns-clause-told c =
    rw (few_names_fault-short _ c.args.most _ c.in_ok-values.values.now c.in_ok-values.ensures.ok c.if-values-most.false) c.names_of.ensures.told
