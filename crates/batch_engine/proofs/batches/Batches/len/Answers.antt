use Rattle.std.proofs.Common.{arith, ap, length}
use Rattle.batch_engine.{specs.Batches.BatchList, proofs.SlabChanges.length-batches}
use Rattle.batch_engine.proofs.batches.Batches.len.Goals as goal

pub returns : goal.returns
returns c =
    omega (
      arith,
      c.len.ensures,
      c.self.inside.entries.ok.0,
      length-batches c.self.inside.slab c.self.inside.entries.items c.self.invariant.occupied,
      ap (λ (r : BatchList). length r.batches) c.self.view_is,
    )
