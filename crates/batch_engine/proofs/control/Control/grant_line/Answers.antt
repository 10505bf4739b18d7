use Rattle.std.proofs.Common.{◌≡◌, sym, subst, ℕ, Some}
use Rattle.batch_model.specs.Moves as Moves
use Rattle.batch_chart.specs.NodesOf.{need_at, place_at}
use Rattle.batch_engine.{specs.declared.batch.Batch.Batch, specs.View.EngineView, specs.View.resource_number, specs.View.tree_of, specs.Steps.IsGrantStep, specs.Steps.IsNext, specs.Steps.IsNumberAt, specs.Steps.TellsNext, proofs.BatchAtIndex.IsRead, proofs.BatchAtIndex.read-there, proofs.MoveLines.grant-told}
use Rattle.batch_engine.proofs.control.Control.grant_line.Goals as goal
use Rattle.batch_recipe.proofs.ValueUpdates.{same-at}

pub returns : goal.returns
returns c =
    let v : EngineView = c.args.self.now in
    let b : Batch = c.index-batch.result.now in
    let i : ℕ = c.args.index in
    let g : IsGrantStep v (IsNext v) i c.args.node c.args.resource c.args.units = c.requires in
    let r : IsRead v i b = read-there c.self.view_is c.self.invariant.kept g.here.at c.index-batch.ensures in
    let same : g.batch ≡ b = same-at v.batches i g.batch b g.here.at r.at in
    let number : IsNumberAt v.cleared b c.args.node g.need c.args.resource c.args.units = (
      subst (λ (z : Batch). resource_number v.cleared (need_at (tree_of v.cleared z) c.args.node g.need).resource ≡ Some c.args.resource) same g.number,
      subst (λ (z : Batch). (need_at (tree_of v.cleared z) c.args.node g.need).units ≡ c.args.units) same g.units_are,
    ) in
    subst (TellsNext v) (sym c.claim_line.ensures)
    (grant-told v r.kept i b r.at g.need number
    (subst (λ (z : Batch). IsNext v (Moves.grant z.number (place_at (tree_of v.cleared z) c.args.node) (need_at (tree_of v.cleared z) c.args.node g.need))) same g.is))
