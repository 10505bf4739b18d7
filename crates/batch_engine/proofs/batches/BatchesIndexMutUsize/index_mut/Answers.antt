use Rattle.std.proofs.Common.{◌≡◌, ◌<◌, ◌∙◌, refl, sym, ap, subst, List, Some, arith, length, get_or}
use Rattle.slab.specs.Slab.{ContainsKey, get, with_value}
use Rattle.batch_engine.{specs.Batches.IsFiled, specs.Batches.BatchList, specs.Batches.list_of, specs.Batches.with_batch_at, specs.declared.batches.Entry.Entry, proofs.SlabChanges.in-entries, proofs.SlabChanges.occupied-at, proofs.SlabChanges.batch-read, proofs.SlabChanges.filed-set, proofs.SlabChanges.batches-set}
use Rattle.batch_engine.proofs.batches.BatchesIndexMutUsize.index_mut.Goals as goal

pub index-entry-requires : goal.index-entry-requires
index-entry-requires c =
    omega (arith, in-entries c.args.self.now c.self.inside.slab c.self.inside.entries.items c.args.index c.self.view_is c.self.invariant.occupied c.requires, c.self.inside.entries.ok.0)

pub index_mut-requires : goal.index_mut-requires
index_mut-requires c =
    let es : List Entry = c.self.inside.entries.items in
    let within : c.args.index < length es = in-entries c.args.self.now c.self.inside.slab c.self.inside.entries.items c.args.index c.self.view_is c.self.invariant.occupied c.requires in
    subst (λ (e : Entry). ContainsKey c.self.inside.slab e.key) (sym c.index-entry.ensures) (occupied-at c.self.inside.slab es c.args.index c.index-entry.result.now c.self.invariant.occupied within)

pub invariant_of-self-lent : goal.invariant_of-self-lent
invariant_of-self-lent c w =
    let es : List Entry = c.self.inside.entries.items in
    let within : c.args.index < length es = in-entries c.args.self.now c.self.inside.slab c.self.inside.entries.items c.args.index c.self.view_is c.self.invariant.occupied c.requires in
    subst (λ (e : Entry). IsFiled (with_value c.self.inside.slab e.key w) es) (sym c.index-entry.ensures) (filed-set c.self.inside.slab es c.args.index c.index-entry.result.now w c.self.invariant within)

pub returns : goal.returns
returns c =
    let es : List Entry = c.self.inside.entries.items in
    let within : c.args.index < length es = in-entries c.args.self.now c.self.inside.slab c.self.inside.entries.items c.args.index c.self.view_is c.self.invariant.occupied c.requires in
    let under : get c.self.inside.slab (get_or es c.args.index c.index-entry.result.now).key ≡ Some c.index_mut.result.now =
    subst (λ (e : Entry). get c.self.inside.slab e.key ≡ Some c.index_mut.result.now) c.index-entry.ensures c.index_mut.ensures.value in (
      (
        refl,
        λ w. ap (λ (e : Entry). list_of (with_value c.self.inside.slab e.key w) es) c.index-entry.ensures
            ∙ ap (λ bs. let r : BatchList = record { numbers = (list_of c.self.inside.slab es).numbers; batches = bs } in r)
            (batches-set c.self.inside.slab es c.args.index c.index-entry.result.now w c.self.invariant.occupied c.self.invariant.rising within)
            ∙ ap (λ (r : BatchList). with_batch_at c.args.index r w) c.self.view_is,
      ),
      record {
        writes_back = tt;
        value =
            batch-read c.self.inside.slab es c.args.index c.index-entry.result.now c.index_mut.result.now c.self.invariant.occupied within under
            ∙ ap (λ (r : BatchList). get_or r.batches c.args.index c.index_mut.result.now) c.self.view_is;
      },
    )
