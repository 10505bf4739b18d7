use Rattle.std.proofs.Common.{◌≡◌, ℕ, ◌-◌, ◌≤◌, List, ◌++◌, length, drop}
use Rattle.batch_journal.specs.Recovery.{raw_lines}
use Rattle.batch_journal.proofs.recovery.line_count.Given as goal

abbrev pub invariant-loop-len : goal.invariant-loop-len
invariant-loop-len l = record {
  within : l.at ≤ length l.bytes;
  few : l.count ≤ l.at;
  looked : List (List ℕ);
  splits : raw_lines l.bytes ≡ looked ++ raw_lines (drop l.at l.bytes);
  counts : l.count ≡ length looked;
}

abbrev pub decreases-loop-len : goal.decreases-loop-len
decreases-loop-len l = length l.bytes - l.at
