use Rattle.std.proofs.Common.{◌≡◌, ◌<◌, ◌∙◌, sym, ap, subst, List, Some, arith, length, get_or}
use Rattle.slab.specs.Slab.{ContainsKey, get}
use Rattle.batch_engine.{specs.Batches.BatchList, specs.declared.batches.Entry.Entry, proofs.SlabChanges.in-entries, proofs.SlabChanges.occupied-at, proofs.SlabChanges.batch-read}
use Rattle.batch_engine.proofs.batches.BatchesIndexUsize.index.Goals as goal

pub index-entry-requires : goal.index-entry-requires
index-entry-requires c =
    omega (arith, in-entries c.args.self.now c.self.inside.slab c.self.inside.entries.items c.args.index c.self.view_is c.self.invariant.occupied c.requires, c.self.inside.entries.ok.0)

pub index-requires : goal.index-requires
index-requires c =
    let es : List Entry = c.self.inside.entries.items in
    let within : c.args.index < length es = in-entries c.args.self.now c.self.inside.slab c.self.inside.entries.items c.args.index c.self.view_is c.self.invariant.occupied c.requires in
    subst (λ (e : Entry). ContainsKey c.self.inside.slab e.key) (sym c.index-entry.ensures) (occupied-at c.self.inside.slab es c.args.index c.index-entry.result.now c.self.invariant.occupied within)

pub returns : goal.returns
returns c =
    let es : List Entry = c.self.inside.entries.items in
    let within : c.args.index < length es = in-entries c.args.self.now c.self.inside.slab c.self.inside.entries.items c.args.index c.self.view_is c.self.invariant.occupied c.requires in
    let under : get c.self.inside.slab (get_or es c.args.index c.index-entry.result.now).key ≡ Some c.index.result.now =
    subst (λ (e : Entry). get c.self.inside.slab e.key ≡ Some c.index.result.now) c.index-entry.ensures c.index.ensures in
    batch-read c.self.inside.slab es c.args.index c.index-entry.result.now c.index.result.now c.self.invariant.occupied within under
    ∙ ap (λ (r : BatchList). get_or r.batches c.args.index c.index.result.now) c.self.view_is
