use Rattle.std.proofs.Common.{◌≡◌, refl, subst, Some}
use Rattle.std.specs.Prelude.{slice_get, option_map}
use Rattle.batch_model.specs.Moves as Moves
use Rattle.batch_arbiter.specs.Allocation.{Allocation, batch_node, after_grant, next_grant}
use Rattle.batch_chart.specs.{Charts.AsksAt, Charts.IsWaitingAt, Charts.remains, NodesOf.need_at, NodesOf.place_at}
use Rattle.batch_recipe.specs.declared.recipe.Recipe as document
use Rattle.batch_engine.{specs.declared.batch.Batch.Batch, specs.Steps.IsGrantStep, specs.Steps.IsNext, specs.View.EngineView, specs.View.resource_number, specs.View.tree_of, proofs.EngineAfterMove.Becomes, proofs.EngineAfterMove.grant-made, proofs.BatchAtIndex.IsRead, proofs.BatchAtIndex.IsSeat, proofs.BatchAtIndex.closed-makes, proofs.BatchAtIndex.counted-set, proofs.BatchAtIndex.read-there, proofs.BatchAtIndex.seat-of, proofs.InvariantAfterMove.changed}
use Rattle.batch_engine.proofs.control.Control.grant.Goals as goal
use Rattle.batch_engine.proofs.control.Control.grant.Goals.{After-index_mut-batch, After-recipe-chart, After-grant}
use Rattle.batch_recipe.proofs.ValueUpdates.{same-at}

read : (c : After-index_mut-batch) → IsRead c.args.self.now c.args.index c.index_mut-batch.result.now
read c = read-there c.self.view_is c.self.invariant.kept c.requires.here.at c.index_mut-batch.ensures.value

same : (c : After-index_mut-batch) → c.requires.batch ≡ c.index_mut-batch.result.now
same c = same-at c.args.self.now.batches c.args.index c.requires.batch c.index_mut-batch.result.now c.requires.here.at (read c).at

seat : (c : After-recipe-chart) → IsSeat c.args.self.now c.args.index c.index_mut-batch.result.now c.recipe-chart.result.now
seat c = seat-of c.self.view_is (read-there c.self.view_is c.self.invariant.kept c.requires.here.at c.index_mut-batch.ensures.value) c.recipe-chart.ensures

pub grant-requires-clause-running : goal.grant-requires-clause-running
grant-requires-clause-running c = (seat (goal.at.grant-requires-clause-running c).After-recipe-chart).running

pub grant-requires-clause-waits : goal.grant-requires-clause-waits
grant-requires-clause-waits c =
    let w = goal.at.grant-requires-clause-waits c in
    let v : EngineView = c.args.self.now in
    let b : Batch = c.index_mut-batch.result.now in
    let is : c.requires.batch ≡ b = same w.After-index_mut-batch in
    let chart : slice_get v.cleared.recipes b.recipe ≡ Some c.requires.chart = subst (λ (z : Batch). slice_get v.cleared.recipes z.recipe ≡ Some c.requires.chart) is c.requires.here.listed in
    subst (λ (z : document.Recipe). IsWaitingAt z b.running c.args.node)
    (same-at v.cleared.recipes b.recipe c.requires.chart c.recipe-chart.result.now chart (seat w.After-recipe-chart).listed)
    (subst (λ (z : Batch). IsWaitingAt c.requires.chart z.running c.args.node) is c.requires.waits)

-- the effect of the grant on the view
abbrev move : After-grant → Moves.Move
move c =
    let t = tree_of c.args.self.now.cleared c.index_mut-batch.result.now in
    Moves.grant c.index_mut-batch.result.now.number (place_at t c.args.node) (need_at t c.args.node c.requires.need)

abbrev arbiter : After-grant → Allocation → Allocation
arbiter c a = after_grant c.args.resource (next_grant a c.args.resource) a

abbrev own : After-grant → Batch
own c = record (c.index_mut-batch.result.now) { running = c.grant.new.self }

made : (c : After-grant) → IsNext c.args.self.now (move c)
    × Becomes c.args.self.now (changed c.args.self.now c.args.index (own c) (arbiter c c.args.self.now.allocation)) (move c)
made c =
    let v : EngineView = c.args.self.now in
    let b : Batch = c.index_mut-batch.result.now in
    let g : IsGrantStep v (IsNext v) c.args.index c.args.node c.args.resource c.args.units = c.requires in
    let r : IsRead v c.args.index b = read-there c.self.view_is c.self.invariant.kept g.here.at c.index_mut-batch.ensures.value in
    let s : IsSeat v c.args.index b c.recipe-chart.result.now = seat-of c.self.view_is r c.recipe-chart.ensures in
    let same : g.batch ≡ b = same-at v.batches c.args.index g.batch b g.here.at s.at in
    let is : IsNext v (move c) = subst (λ (z : Batch). IsNext v (Moves.grant z.number (place_at (tree_of v.cleared z) c.args.node) (need_at (tree_of v.cleared z) c.args.node g.need))) same g.is in
    let asks = subst (λ (z : Batch). AsksAt (tree_of v.cleared z) (remains (tree_of v.cleared z) z.running) c.args.node g.need) same g.asks in
    let number = subst (λ (z : Batch). resource_number v.cleared (need_at (tree_of v.cleared z) c.args.node g.need).resource ≡ Some c.args.resource) same g.number in
    let first = subst (λ (z : Batch). option_map batch_node (next_grant v.allocation c.args.resource) ≡ Some (z.number, c.args.node)) same g.first in
    let made = c.grant.ensures (tree_of v.cleared b) s.chart s.runs in
    (is, grant-made v s.kept c.args.index b s.at c.args.node g.need c.args.resource c.grant.new.self asks number first made.0 made.2 is)

pub invariant_of-self : goal.invariant_of-self
invariant_of-self c =
    let s = (goal.at.invariant_of-self c).After-grant in
    counted-set c.args.index (own s) (arbiter s) c.self.view_is c.self.invariant c.index_mut-batch.ensures.value refl refl c.grant_next.ensures.after (made s).1.kept

pub returns : goal.returns
returns c =
    let s = (goal.at.returns c).After-grant in
    closed-makes c.args.index (own s) (arbiter s) c.self.view_is c.grant_next.ensures.after (made s).1 (made s).0
