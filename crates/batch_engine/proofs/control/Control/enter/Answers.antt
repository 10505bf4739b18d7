use Rattle.std.proofs.Common.{refl, sym, subst}
use Rattle.batch_matrix.specs.declared.state.State.{State}
use Rattle.batch_engine.{specs.declared.batch.Batch.Batch, specs.View.EngineView, proofs.OrderAnswers.order-at, proofs.AcceptedOrders.Ordered, proofs.AcceptedOrders.enter-made, proofs.BatchAtIndex.IsRead, proofs.BatchAtIndex.closed-ordered, proofs.BatchAtIndex.counted-set, proofs.BatchAtIndex.read-there, proofs.InvariantAfterMove.changed}
use Rattle.batch_engine.proofs.control.Control.enter.Goals as goal
use Rattle.batch_engine.proofs.control.Control.enter.Goals.{After-index_mut-batch}

abbrev own : After-index_mut-batch → Batch
own c = record (c.index_mut-batch.result.now) { state = c.args.state }

made : (c : After-index_mut-batch) → Ordered c.args.self.now (changed c.args.self.now c.args.index (own c) c.args.self.now.allocation) c.args.command c.args.number
made c =
    let v : EngineView = c.args.self.now in
    let b : Batch = c.index_mut-batch.result.now in
    let r : IsRead v c.args.index b = read-there c.self.view_is c.self.invariant.kept c.requires.order.at c.index_mut-batch.ensures.value in
    subst (λ (x : State). Ordered v (changed v c.args.index (record b { state = x }) v.allocation) c.args.command c.args.number) (sym c.requires.target)
    (enter-made v r.kept c.args.index c.args.command c.args.number (order-at v c.args.index c.args.command c.args.number c.requires.order b r.at) c.requires.plain)

pub invariant_of-self : goal.invariant_of-self
invariant_of-self c =
    counted-set c.args.index (own (goal.at.invariant_of-self c).After-index_mut-batch) (λ a. a) c.self.view_is c.self.invariant c.index_mut-batch.ensures.value refl refl refl (made (goal.at.invariant_of-self c).After-index_mut-batch).kept

pub returns : goal.returns
returns c = closed-ordered c.args.index (own (goal.at.returns c).After-index_mut-batch) (λ a. a) c.self.view_is refl (made (goal.at.returns c).After-index_mut-batch)
