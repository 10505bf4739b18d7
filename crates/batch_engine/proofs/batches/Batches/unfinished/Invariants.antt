use Rattle.std.proofs.Common.{◌≡◌, ◌||◌, not, take}
use Rattle.std.specs.List.{count_by}
use Rattle.batch_matrix.specs.{Matrix.same_state, declared.state.State.TheVariants.Complete}
use Rattle.batch_model.specs.Moves.{is_stopped}
use Rattle.batch_engine.proofs.batches.Batches.unfinished.Given as goal

abbrev pub invariant-loop-index : goal.invariant-loop-index
invariant-loop-index l = l.count ≡ count_by (λ b. not (same_state b.state Complete || is_stopped b.state)) (take l.index l.self.batches)
