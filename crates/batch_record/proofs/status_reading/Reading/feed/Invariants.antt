use Rattle.std.proofs.Common.{◌≡◌, ℕ, List, ◌++◌, length}
use Rattle.batch_record.specs.Standings.{HasRead}
use Rattle.batch_record.proofs.status_reading.Reading.feed.Given as goal

abbrev pub invariant-loop-at : goal.invariant-loop-at
invariant-loop-at l = record {
  taken : List ℕ;
  split : l.piece ≡ taken ++ l.rest;
  has_read : (read : List ℕ) → HasRead l.initial.self read → HasRead l.self (read ++ taken);
}

abbrev pub decreases-loop-at : goal.decreases-loop-at
decreases-loop-at l = length l.rest
