use Rattle.std.proofs.Common.{◌∙◌, ap, ℕ, List}
use Rattle.std.specs.Prelude.{nat_eq, position}
use Rattle.batch_engine.{specs.declared.batch.Batch.Batch, specs.Batches.own_number, specs.View.EngineView, proofs.BinarySearch.position-map}
use Rattle.batch_engine.proofs.control.Control.index_of.Goals as goal

pub returns : goal.returns
returns c =
    c.index_of.ensures ∙ ap (λ (ns : List ℕ). position (λ n. nat_eq n c.args.number) ns) c.self.invariant.numbers
    ∙ position-map (λ n. nat_eq n c.args.number) own_number c.self.inside.batches.batches
    ∙ ap (λ (z : EngineView). position (λ (b : Batch). nat_eq b.number c.args.number) z.batches) c.self.view_is
