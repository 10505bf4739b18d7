use Rattle.std.proofs.Common.{refl}
use Rattle.batch_model.specs.Moves as Moves
use Rattle.batch_engine.{specs.declared.batch.Batch.Batch, specs.Steps.IsNext, specs.View.EngineView, proofs.EngineAfterMove.Becomes, proofs.EngineAfterMove.state-changed, proofs.BatchAtIndex.closed-makes, proofs.BatchAtIndex.counted-set, proofs.BatchAtIndex.mover, proofs.InvariantAfterMove.changed}
use Rattle.batch_engine.proofs.control.Control.change_state.Goals as goal
use Rattle.batch_engine.proofs.control.Control.change_state.Goals.{After-index_mut-batch}

abbrev move : After-index_mut-batch → Moves.Move
move c = Moves.state c.index_mut-batch.result.now.number c.args.state

abbrev own : After-index_mut-batch → Batch
own c = record (c.index_mut-batch.result.now) { state = c.args.state }

made : (c : After-index_mut-batch) → IsNext c.args.self.now (move c)
    × Becomes c.args.self.now (changed c.args.self.now c.args.index (own c) c.args.self.now.allocation) (move c)
made c =
    let v : EngineView = c.args.self.now in
    let b : Batch = c.index_mut-batch.result.now in
    let h = mover c.self.view_is c.self.invariant.kept c.requires c.index_mut-batch.ensures.value in
    (h.is, state-changed v h.kept c.args.index b h.at c.args.state h.is)

pub invariant_of-self : goal.invariant_of-self
invariant_of-self c =
    counted-set c.args.index (own (goal.at.invariant_of-self c).After-index_mut-batch) (λ a. a) c.self.view_is c.self.invariant c.index_mut-batch.ensures.value refl refl refl (made (goal.at.invariant_of-self c).After-index_mut-batch).1.kept

pub returns : goal.returns
returns c = let m = made (goal.at.returns c).After-index_mut-batch in closed-makes c.args.index (own (goal.at.returns c).After-index_mut-batch) (λ a. a) c.self.view_is refl m.1 m.0
