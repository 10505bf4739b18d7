use Rattle.std.proofs.Common.{◌<◌, ◌≤◌, ◌-◌, ℕ, length}
use Rattle.batch_engine.specs.Marked.{HasNoMove}
use Rattle.batch_engine.proofs.control.Control.first_step.Given as goal

-- no batch before has a move
abbrev pub invariant-loop-marked : goal.invariant-loop-marked
invariant-loop-marked l = (l.from ≤ 4096) × ((i : ℕ) → i < l.from → i < length l.self.batches → HasNoMove l.self i)

abbrev pub decreases-loop-marked : goal.decreases-loop-marked
decreases-loop-marked l = 4096 - l.from
