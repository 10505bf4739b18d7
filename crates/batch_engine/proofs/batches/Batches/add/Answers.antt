use Rattle.std.proofs.Common.{◌≡◌, ◌<◌, ◌∙◌, sym, ap, ap₂, subst, List, [], ◌∷◌, ◌++◌, map}
use Rattle.std.proofs.lemmas.List.{map_push}
use Rattle.slab.specs.Slab.{Slab}
use Rattle.batch_model.specs.Lists.{Each}
use Rattle.batch_engine.{specs.Batches.IsFiled, specs.Batches.BatchList, specs.Batches.entry_number, specs.Batches.list_of, specs.Batches.batches_in, specs.Batches.with_batch, specs.declared.batch.Batch.Batch, specs.declared.batches.Entry.Entry, proofs.SlabChanges.filed-push, proofs.SlabChanges.filed-roomy, proofs.SlabChanges.batches-push}
use Rattle.batch_engine.proofs.batches.Batches.add.Goals as goal

pub invariant_of-self-2 : goal.invariant_of-self-2
invariant_of-self-2 c =
    let slab : Slab Batch = c.reserve.new.self in
    let es : List Entry = c.self.inside.entries.items in
    let y : Entry = record { number = c.args.batch.number; key = c.insert_reserved-key.result } in
    let filed : IsFiled slab es =
    subst (λ (s : Slab Batch). IsFiled s es) (sym c.in_ok-reserve.ensures.rest_kept) (filed-roomy c.self.inside.slab slab.capacity es c.self.invariant) in
    let above : Each (λ m. m < y.number) (map entry_number es) = subst (λ (r : BatchList). Each (λ m. m < y.number) r.numbers) (sym c.self.view_is) c.requires in
    let items : c.push_reserved.new.self.items ≡ es ++ y ∷ [] = c.push_reserved.ensures.items ∙ ap (λ xs. xs ++ y ∷ []) c.in_ok-reserve-2.ensures.items in
    subst (IsFiled c.insert_reserved-key.new.self) (sym items)
    (filed-push slab c.insert_reserved-key.new.self es y c.args.batch filed c.insert_reserved-key.ensures.was_vacant c.insert_reserved-key.ensures.updates c.insert_reserved-key.ensures.len above)

pub returns-clause-added : goal.returns-clause-added
returns-clause-added c =
    let slab : Slab Batch = c.reserve.new.self in
    let new : Slab Batch = c.insert_reserved-key.new.self in
    let es : List Entry = c.self.inside.entries.items in
    let y : Entry = record { number = c.args.batch.number; key = c.insert_reserved-key.result } in
    let filed : IsFiled slab es =
    subst (λ (s : Slab Batch). IsFiled s es) (sym c.in_ok-reserve.ensures.rest_kept) (filed-roomy c.self.inside.slab slab.capacity es c.self.invariant) in
    let items : c.push_reserved.new.self.items ≡ es ++ y ∷ [] = c.push_reserved.ensures.items ∙ ap (λ xs. xs ++ y ∷ []) c.in_ok-reserve-2.ensures.items in
    let batches : batches_in new (es ++ y ∷ []) ≡ batches_in slab es ++ c.args.batch ∷ [] =
    batches-push slab new es y c.args.batch filed.occupied c.insert_reserved-key.ensures.was_vacant c.insert_reserved-key.ensures.updates in
    let same : batches_in slab es ≡ batches_in c.self.inside.slab es = ap (λ (s : Slab Batch). batches_in s es) c.in_ok-reserve.ensures.rest_kept in
    ap (list_of new) items
    ∙ ap₂ (λ ns bs. let r : BatchList = record { numbers = ns; batches = bs } in r) (map_push entry_number es y) (batches ∙ ap (λ bs. bs ++ c.args.batch ∷ []) same)
    ∙ ap (with_batch c.args.batch) c.self.view_is
