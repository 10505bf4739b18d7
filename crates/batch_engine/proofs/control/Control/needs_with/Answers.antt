use Rattle.std.proofs.Common.{ap, arith}
use Rattle.batch_engine.{specs.View.EngineView, specs.View.tree_at, specs.Kept.needs_of_all, proofs.FewNeeds.few-needs, proofs.FewNeeds.few-of_all}
use Rattle.batch_engine.proofs.control.Control.needs_with.Goals as goal

-- at most 22 needs a node, 4,096 nodes a batch, 4,096 batches
pub overflow_add-result : goal.overflow_add-result
overflow_add-result c =
    let v : EngineView = c.args.self.now in
    omega (
      arith,
      c.requires.free,
      c.self.invariant.needs_are,
      ap (λ (z : EngineView). needs_of_all z.cleared z.batches) c.self.view_is,
      few-of_all v.cleared v.batches,
      c.needs.ensures (tree_at v.cleared c.requires.runs.0 c.requires.runs.1) c.requires.runs.2,
      few-needs v.cleared c.requires.runs.0 c.requires.runs.1,
    )

pub returns : goal.returns
returns c t runs =
    omega (arith, c.self.invariant.needs_are, ap (λ (z : EngineView). needs_of_all z.cleared z.batches) c.self.view_is, c.needs.ensures t runs)
