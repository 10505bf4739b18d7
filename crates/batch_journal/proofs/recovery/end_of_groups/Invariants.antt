use Rattle.std.proofs.Common.{◌≡◌, ℕ, ◌-◌, ◌≤◌, List, length, take, slice_range}
use Rattle.batch_journal.specs.{Groups.AreOthers, Journals.journal_format, Journals.sum_text, Journals.IsClosed, Lines.AreLines, Lines.text_of}
use Rattle.batch_journal.proofs.recovery.end_of_groups.Given as goal

abbrev pub invariant-loop-len : goal.invariant-loop-len
invariant-loop-len l = record {
  closed : IsClosed l.documents (take l.end l.bytes) (sum_text l.sum);
  begun : List (List ℕ);
  are : AreLines begun;
  others : AreOthers journal_format begun;
  text : slice_range l.bytes l.end l.at ≡ text_of begun;
  order : l.end ≤ l.at;
  within : l.at ≤ length l.bytes;
}

abbrev pub decreases-loop-len : goal.decreases-loop-len
decreases-loop-len l = length l.bytes - l.at
