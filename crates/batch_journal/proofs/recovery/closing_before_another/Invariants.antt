use Rattle.std.proofs.Common.{◌≡◌, ℕ, ◌-◌, ◌≤◌, List, [], ◌++◌, length, drop, IfSome}
use Rattle.batch_journal.{specs.Lines.whole_from, specs.Recovery.closings, proofs.ClosingLines.ClosesFirst, proofs.ClosingLines.found_count}
use Rattle.batch_journal.proofs.recovery.closing_before_another.Given as goal

abbrev pub invariant-loop-len : goal.invariant-loop-len
invariant-loop-len l = record {
  within : l.at ≤ length l.bytes;
  looked : List (List ℕ);
  splits : whole_from [] l.bytes ≡ looked ++ whole_from [] (drop l.at l.bytes);
  count : l.count ≡ length looked;
  few : l.count ≤ l.at;
  found : IfSome l.first (λ before. ClosesFirst before looked);
  before : IfSome l.first (λ before. before ≤ length l.bytes);
  counts : closings looked ≡ found_count l.first;
}

abbrev pub decreases-loop-len : goal.decreases-loop-len
decreases-loop-len l = length l.bytes - l.at
