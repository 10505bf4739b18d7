use Rattle.std.proofs.Common.{◌≡◌, ◌++◌, map}
use Rattle.batch_record.specs.{Kept.entry_row, Kept.listed_rows, Listing.batch_words, Listing.lines_behind}
use Rattle.batch_record.proofs.text.put_batches.Given as goal

abbrev pub invariant-loop-number : goal.invariant-loop-number
invariant-loop-number l =
    l.text.items ++ lines_behind l.mark (map batch_words (map entry_row l.number-iterator)) ≡ l.initial.text.items ++ lines_behind l.mark (map batch_words (listed_rows l.batches))
