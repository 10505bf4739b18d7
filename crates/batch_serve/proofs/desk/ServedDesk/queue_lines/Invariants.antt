use Rattle.std.proofs.Common.{◌≡◌, ◌≤◌, List, ℕ, ◌++◌, filter, false, length}
use Rattle.batch_serve.specs.{Dues.is_due, Waits.IsAccount}
use Rattle.batch_wire.specs.Transcript.{whole_lines}
use Rattle.batch_serve.proofs.desk.ServedDesk.queue_lines.Given as goal

-- the first lines were told
abbrev pub invariant-loop-at : goal.invariant-loop-at
invariant-loop-at l = record {
  within : length l.rest ≤ length l.text;
  unit : l.self.unit ≡ l.initial.self.unit;
  cut : l.self.waiting.is_cut ≡ false → l.initial.self.waiting.is_cut ≡ false;
  front : List (List ℕ);
  splits : whole_lines l.text ≡ front ++ whole_lines l.rest;
  account : (all told : List (List ℕ)) → IsAccount all told l.initial.self.waiting → IsAccount (all ++ filter (is_due l.is_own l.initial.self.unit) front) told l.self.waiting;
}

abbrev pub decreases-loop-at : goal.decreases-loop-at
decreases-loop-at l = length l.rest
