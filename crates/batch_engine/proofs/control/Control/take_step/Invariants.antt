use Rattle.std.proofs.Common.{◌<◌, ◌≤◌, ◌-◌, ℕ, length}
use Rattle.batch_engine.specs.Marked.{AreMarked, HasNoMove}
use Rattle.batch_engine.proofs.control.Control.take_step.Given as goal

-- no batch before has a move
abbrev pub invariant-loop-index : goal.invariant-loop-index
invariant-loop-index l = record {
  within : l.from ≤ 4096;
  none : (i : ℕ) → i < l.from → i < length l.self.batches → HasNoMove l.self i;
  marked : AreMarked l.self l.marks;
}

abbrev pub decreases-loop-index : goal.decreases-loop-index
decreases-loop-index l = 4096 - l.from
