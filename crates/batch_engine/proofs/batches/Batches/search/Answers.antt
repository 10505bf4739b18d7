use Rattle.std.proofs.Common.{rules, ◌∙◌, ap}
use Rattle.std.{specs.Prelude.nat_eq, specs.Prelude.position, proofs.lemmas.List.Sorted.answers_always}
use Rattle.batch_engine.{specs.Batches.BatchList, proofs.BinarySearch.searched}
use Rattle.batch_engine.proofs.batches.Batches.search.Goals as goal

-- the closure gives an entry's number, and the slice is the entries
pub returns : goal.returns
returns c =
    let facts = c.binary_search_by_key.ensures in
    let by_number = facts.position (λ entry. entry.number) (answers_always _ _ _ (λ f a r g called. search rules)) in
    c.ok.ensures.value
    ∙ searched c.self.inside.entries.items c.self.invariant.rising c.args.number c.binary_search_by_key.result
    (rw c.deref.ensures.value at facts.bound) (rw c.deref.ensures.value at by_number)
    ∙ ap (λ (r : BatchList). position (λ n. nat_eq n c.args.number) r.numbers) c.self.view_is
