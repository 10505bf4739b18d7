use Rattle.std.proofs.Common.{refl, sym, subst}
use Rattle.batch_matrix.specs.declared.state.State.{State}
use Rattle.batch_arbiter.specs.Allocation.{after_withdrawal}
use Rattle.batch_engine.{specs.declared.batch.Batch.Batch, specs.Orders.IsOrder, specs.View.EngineView, specs.View.model_batch, specs.View.tree_of, proofs.BatchLookups.batch-runs, proofs.EngineAfterMove.runs-as, proofs.OrderAnswers.order-at, proofs.AcceptedOrders.Ordered, proofs.AcceptedOrders.stop-made, proofs.BatchAtIndex.IsRead, proofs.BatchAtIndex.closed-ordered, proofs.BatchAtIndex.counted-set, proofs.BatchAtIndex.read-there, proofs.InvariantAfterMove.changed}
use Rattle.batch_engine.proofs.control.Control.stop.Goals as goal
use Rattle.batch_engine.proofs.control.Control.stop.Goals.{After-withdraw_asks}

abbrev own : After-withdraw_asks → Batch
own c = record (c.index_mut-batch.result.now) { state = c.args.state; running = c.withdraw_asks.new.self }

made : (c : After-withdraw_asks) → Ordered c.args.self.now
    (changed c.args.self.now c.args.index (own c) (after_withdrawal c.args.number c.args.self.now.allocation)) c.args.command c.args.number
made c =
    let v : EngineView = c.args.self.now in
    let b : Batch = c.index_mut-batch.result.now in
    let r : IsRead v c.args.index b = read-there c.self.view_is c.self.invariant.kept c.requires.order.at c.index_mut-batch.ensures.value in
    let o : IsOrder v c.args.index c.args.command c.args.number = order-at v c.args.index c.args.command c.args.number c.requires.order b r.at in
    let left = c.withdraw_asks.ensures (tree_of v.cleared b) (batch-runs v r.kept c.args.index b r.at).runs in
    subst (λ n. Ordered v (changed v c.args.index (record b { state = c.args.state; running = c.withdraw_asks.new.self }) (after_withdrawal n v.allocation)) c.args.command c.args.number) o.number
    (subst (λ (x : State). Ordered v (changed v c.args.index (record b { state = x; running = c.withdraw_asks.new.self }) (after_withdrawal b.number v.allocation)) c.args.command c.args.number) (sym c.requires.target)
    (stop-made v r.kept c.args.index c.args.command c.args.number o c.requires.ends c.withdraw_asks.new.self left.0 (left.2 (model_batch v.cleared b).rest (model_batch v.cleared b).in_advance (runs-as v r.kept c.args.index b r.at))))

pub asks_by_resource-asks-requires : goal.asks_by_resource-asks-requires
asks_by_resource-asks-requires c = (c.args.index, (read-there c.self.view_is c.self.invariant.kept c.requires.order.at c.index.ensures).at)

pub invariant_of-self : goal.invariant_of-self
invariant_of-self c =
    counted-set c.args.index (own (goal.at.invariant_of-self c).After-withdraw_asks) (after_withdrawal c.args.number) c.self.view_is c.self.invariant c.index_mut-batch.ensures.value refl refl c.withdraw.ensures (made (goal.at.invariant_of-self c).After-withdraw_asks).kept

pub returns : goal.returns
returns c = closed-ordered c.args.index (own (goal.at.returns c).After-withdraw_asks) (after_withdrawal c.args.number) c.self.view_is c.withdraw.ensures (made (goal.at.returns c).After-withdraw_asks)
