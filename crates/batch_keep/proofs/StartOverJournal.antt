-- The beginning of a run over a journal.
use Rattle.std.proofs.Common.{ℕ, List, [], ◌++◌, sym, ◌∙◌, ap}
use Rattle.std.proofs.lemmas.List.{append-nil}
use Rattle.batch_journal.{specs.Disks.Left, specs.Disks.MayLeave, specs.Journals.recovered, specs.Lines.text_of, specs.Readers.IsJournalKept, specs.Readers.HasRecalled, proofs.ReaderLemmas.begun_now}
use Rattle.batch_keep.specs.Told.{IsJournalAtRest}

pub kept_here : (documents durable seen given sum : List ℕ) → IsJournalAtRest documents durable seen given sum → IsJournalKept documents (text_of (recovered documents seen)) durable seen given [] sum
kept_here documents durable seen given sum rest = record {
  journal = rest.journal;
  synced = rest.synced;
  holds = sym (append-nil (text_of (recovered documents seen))) ∙ ap (λ l. text_of (recovered documents seen) ++ (l ++ [])) (sym rest.none);
}

-- from this moment on
pub recalled_here : (documents durable seen given sum : List ℕ) (moment : ℕ) (left_since : ℕ → Left → Type 0) → IsJournalAtRest documents durable seen given sum
    → ((left : Left) → left_since moment left → MayLeave durable seen given left) → HasRecalled documents (text_of (recovered documents seen)) moment moment left_since
recalled_here documents durable seen given sum moment left_since rest now =
    begun_now documents (text_of (recovered documents seen)) durable seen given sum moment left_since (kept_here documents durable seen given sum rest) now
