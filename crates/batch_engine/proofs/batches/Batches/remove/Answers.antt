use Rattle.std.proofs.Common.{◌≡◌, ◌<◌, ◌∙◌, sym, ap, ap₂, subst, List, Some, arith, length, get_or}
use Rattle.slab.specs.Slab.{get}
use Rattle.batch_engine.{specs.Batches.IsFiled, specs.Batches.BatchList, specs.Batches.entry_number, specs.Batches.list_of, specs.Batches.without_batch, specs.declared.batches.Entry.Entry, proofs.SlabChanges.LeavesOthers, proofs.SlabChanges.in-entries, proofs.SlabChanges.filed-remove, proofs.SlabChanges.batches-remove, proofs.SlabChanges.batch-read, proofs.SlabChanges.map-remove}
use Rattle.batch_engine.proofs.batches.Batches.remove.Goals as goal

pub remove-entry-requires : goal.remove-entry-requires
remove-entry-requires c =
    omega (arith, in-entries c.args.self.now c.self.inside.slab c.self.inside.entries.items c.args.index c.self.view_is c.self.invariant.occupied c.requires, c.self.inside.entries.ok.0)

pub invariant_of-self : goal.invariant_of-self
invariant_of-self c =
    let es : List Entry = c.self.inside.entries.items in
    let within : c.args.index < length es = in-entries c.args.self.now c.self.inside.slab c.self.inside.entries.items c.args.index c.self.view_is c.self.invariant.occupied c.requires in
    let others = subst (λ (e : Entry). LeavesOthers c.self.inside.slab c.remove.new.self e.key) c.remove-entry.ensures.value c.remove.ensures.updates.others in
    subst (IsFiled c.remove.new.self) (sym c.remove-entry.ensures.items) (filed-remove c.self.inside.slab c.remove.new.self es c.args.index c.remove-entry.result c.self.invariant within others c.remove.ensures.len)

pub returns-clause-value : goal.returns-clause-value
returns-clause-value c =
    let es : List Entry = c.self.inside.entries.items in
    let within : c.args.index < length es = in-entries c.args.self.now c.self.inside.slab c.self.inside.entries.items c.args.index c.self.view_is c.self.invariant.occupied c.requires in
    let under : get c.self.inside.slab (get_or es c.args.index c.remove-entry.result).key ≡ Some c.remove.result =
    subst (λ (e : Entry). get c.self.inside.slab e.key ≡ Some c.remove.result) c.remove-entry.ensures.value c.remove.ensures.value in
    batch-read c.self.inside.slab es c.args.index c.remove-entry.result c.remove.result c.self.invariant.occupied within under
    ∙ ap (λ (r : BatchList). get_or r.batches c.args.index c.remove.result) c.self.view_is

pub returns-clause-rest : goal.returns-clause-rest
returns-clause-rest c =
    let es : List Entry = c.self.inside.entries.items in
    let within : c.args.index < length es = in-entries c.args.self.now c.self.inside.slab c.self.inside.entries.items c.args.index c.self.view_is c.self.invariant.occupied c.requires in
    let others = subst (λ (e : Entry). LeavesOthers c.self.inside.slab c.remove.new.self e.key) c.remove-entry.ensures.value c.remove.ensures.updates.others in
    ap (list_of c.remove.new.self) c.remove-entry.ensures.items
    ∙ ap₂ (λ ns bs. let r : BatchList = record { numbers = ns; batches = bs } in r) (map-remove entry_number es c.args.index)
    (batches-remove c.self.inside.slab c.remove.new.self es c.args.index c.remove-entry.result c.self.invariant within others)
    ∙ ap (without_batch c.args.index) c.self.view_is
