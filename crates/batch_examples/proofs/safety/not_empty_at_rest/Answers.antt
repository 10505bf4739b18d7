use Rattle.std.proofs.Common.{refl, [], ◌∷◌}
use Rattle.batch_matrix.specs.declared.state.State.TheVariants.{Aborted, Complete, Stopped}
use Rattle.batch_model.specs.{Moves.state, Runs.move}
use Rattle.batch_examples.specs.{RowDocuments.hdr, RowParts.p0, RowParts.asks, RowParts.grants}
use Rattle.batch_examples.proofs.safety.not_empty_at_rest.Goals as goal

pub returns-clause-complete_holding : goal.returns-clause-complete_holding
returns-clause-complete_holding c = λ safe. ((safe (grants 1 p0 hdr ∷ move (state 1 Complete) ∷ []) [] refl).rests 1 Complete refl refl hdr).0.0 refl

pub returns-clause-stopped_holding : goal.returns-clause-stopped_holding
returns-clause-stopped_holding c = λ safe. ((safe (grants 1 p0 hdr ∷ move (state 1 Stopped) ∷ []) [] refl).rests 1 Stopped refl refl hdr).0.0 refl

pub returns-clause-aborted_holding : goal.returns-clause-aborted_holding
returns-clause-aborted_holding c = λ safe. ((safe (grants 1 p0 hdr ∷ move (state 1 Aborted) ∷ []) [] refl).rests 1 Aborted refl refl hdr).0.0 refl

pub returns-clause-complete_waiting : goal.returns-clause-complete_waiting
returns-clause-complete_waiting c = λ safe. ((safe (asks 1 p0 hdr ∷ move (state 1 Complete) ∷ []) [] refl).rests 1 Complete refl refl hdr).1.0 refl

pub returns-clause-stopped_waiting : goal.returns-clause-stopped_waiting
returns-clause-stopped_waiting c = λ safe. ((safe (asks 1 p0 hdr ∷ move (state 1 Stopped) ∷ []) [] refl).rests 1 Stopped refl refl hdr).1.0 refl

pub returns-clause-aborted_waiting : goal.returns-clause-aborted_waiting
returns-clause-aborted_waiting c = λ safe. ((safe (asks 1 p0 hdr ∷ move (state 1 Aborted) ∷ []) [] refl).rests 1 Aborted refl refl hdr).1.0 refl
