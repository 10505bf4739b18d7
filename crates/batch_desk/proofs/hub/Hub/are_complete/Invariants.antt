use Rattle.std.proofs.Common.{ℕ, ◌+◌, ◌<◌, ◌≤◌}
use Rattle.batch_desk.specs.HubDone.{IsComplete}
use Rattle.batch_desk.proofs.hub.Hub.are_complete.Given as goal

-- the last batches, as many as were looked at, are complete
abbrev pub invariant-loop-later : goal.invariant-loop-later
invariant-loop-later l = (n : ℕ) → 1 ≤ n → n ≤ l.batches → l.batches < n + l.later → IsComplete n l.self
