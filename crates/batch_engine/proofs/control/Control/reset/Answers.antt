use Rattle.std.proofs.Common.{◌≡◌, ◌∙◌, refl, sym, ap, []}
use Rattle.batch_matrix.specs.declared.{command.Command.TheVariants.Reset, state.State.TheVariants.Idle}
use Rattle.batch_model.specs.Plant.{Master}
use Rattle.batch_recipe.specs.{Conditions.ValueList, Values.with_outputs_zero}
use Rattle.batch_engine.{specs.declared.batch.Batch.Batch, specs.View.EngineView, specs.View.bound_to, specs.View.recipe_made, specs.View.tree_of, proofs.BatchLookups.master-found, proofs.OrderAnswers.order-at, proofs.AcceptedOrders.Ordered, proofs.AcceptedOrders.reset-made, proofs.BatchAtIndex.IsSeat, proofs.BatchAtIndex.closed-ordered, proofs.BatchAtIndex.counted-set, proofs.BatchAtIndex.read-there, proofs.BatchAtIndex.seat-of, proofs.InvariantAfterMove.changed}
use Rattle.batch_engine.proofs.control.Control.reset.Goals as goal
use Rattle.batch_engine.proofs.control.Control.reset.Goals.{After-recipe-chart, After-reset}

seat : (c : After-recipe-chart) → IsSeat c.args.self.now c.args.index c.index_mut-batch.result.now c.recipe-chart.result.now
seat c = seat-of c.self.view_is (read-there c.self.view_is c.self.invariant.kept c.requires.order.at c.index_mut-batch.ensures.value) c.recipe-chart.ensures

abbrev own : After-reset → Batch
own c = record (c.index_mut-batch.result.now) { values = c.clear_outputs.new.self; state = Idle; running = c.reset.new.self }

made : (c : After-reset) → IsSeat c.args.self.now c.args.index c.index_mut-batch.result.now c.recipe-chart.result.now
    → Ordered c.args.self.now (changed c.args.self.now c.args.index (own c) c.args.self.now.allocation) Reset c.args.number
made c s =
    let v : EngineView = c.args.self.now in
    let b : Batch = c.index_mut-batch.result.now in
    let outputs : (recipe_made v.cleared b).outputs ≡ c.deref.result.now =
    ap (λ (m : Master). (m.control (bound_to v.cleared b.recipe b.units)).outputs) (master-found v.cleared b.recipe c.recipe-chart.result.now s.listed) ∙ sym c.deref.ensures.value in
    let left = λ (ws : ValueList). c.reset.ensures (tree_of v.cleared b) ws s.chart s.runs in
    reset-made v s.kept c.args.index c.args.number (order-at v c.args.index Reset c.args.number c.requires.order b s.at) c.reset.new.self c.clear_outputs.new.self
    (c.clear_outputs.ensures ∙ ap (λ z. with_outputs_zero z b.values) (sym outputs)) (left []).0 (λ ws. (left ws).2)

pub reset-requires : goal.reset-requires
reset-requires c = (seat (goal.at.reset-requires c).After-recipe-chart).running

pub invariant_of-self : goal.invariant_of-self
invariant_of-self c =
    let w = goal.at.invariant_of-self c in
    counted-set c.args.index (own w.After-reset) (λ a. a) c.self.view_is c.self.invariant c.index_mut-batch.ensures.value refl refl refl (made w.After-reset (seat w.After-recipe-chart)).kept

pub returns : goal.returns
returns c = let w = goal.at.returns c in closed-ordered c.args.index (own w.After-reset) (λ a. a) c.self.view_is refl (made w.After-reset (seat w.After-recipe-chart))
