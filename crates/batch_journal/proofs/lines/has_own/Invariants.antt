use Rattle.std.proofs.Common.{◌≡◌, ℕ, List, ◌++◌, ◌≤◌, length}
use Rattle.batch_journal.specs.{Groups.AreOthers, Journals.journal_format, Lines.whole_lines_before_zero}
use Rattle.batch_journal.proofs.lines.has_own.Given as goal

abbrev pub invariant-loop-at : goal.invariant-loop-at
invariant-loop-at l = record {
  within : length l.rest ≤ length l.text;
  front : List (List ℕ);
  others : AreOthers journal_format front;
  splits : whole_lines_before_zero l.text ≡ front ++ whole_lines_before_zero l.rest;
}

abbrev pub decreases-loop-at : goal.decreases-loop-at
decreases-loop-at l = length l.rest
