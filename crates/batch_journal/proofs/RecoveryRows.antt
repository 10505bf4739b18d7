-- The worked rows of files that a start takes.
use Rattle.std.proofs.Common.{[], ◌∷◌, codes, refl, inl, inr, ⊎_elim, arith}
use Rattle.batch_journal.{specs.Journals.header, specs.Recovery.IsJournalUnbegun, specs.RowsOfRecovery.RecoveryRows, specs.RowsOfRecovery.documents, specs.RowsOfRecovery.others, specs.declared.recovery.RecoveryFault.TheVariants.NoJournal, specs.declared.recovery.RecoveryFault.TheVariants.OtherDocuments, specs.declared.recovery.RecoveryFault.TheVariants.Damaged, proofs.RecoveryLemmas.header_journal, proofs.RecoveryLemmas.not_both, proofs.FilesWithoutRefusal.like_part, proofs.FilesWithoutRefusal.part_like, proofs.FilesWithoutRefusal.not_refused}

not_begun : IsJournalUnbegun documents (codes "start 1\n") → ⊥
not_begun begun = ⊎_elim (λ none. none 7 (omega arith) refl) (λ part. not_both _ (part_like (codes "start 1\n") (header documents) part) refl) begun

not_torn : IsJournalUnbegun documents (header others) → ⊥
not_torn begun = ⊎_elim (λ none. none 83 (omega arith) refl) (λ part. not_both _ (part_like (header others) (header documents) part) refl) begun

pub rows : RecoveryRows
rows = record {
  empty = inr (inr tt);
  begun = inr (inr (like_part (codes "# batchd jour") (header documents) (omega arith) refl));
  torn = inr (inr (like_part (codes "# batchd\0journal 1 a\0") (header documents) (omega arith) refl));
  nothing = inl (84, documents, record { within = omega arith; journal = header_journal documents; no_more = refl; few = omega arith });
  line = inl (84, documents, record { within = omega arith; journal = header_journal documents; no_more = refl; few = omega arith });
  text = λ taken. not_refused documents _ taken NoJournal (refl, not_begun);
  other = λ taken. not_refused documents _ taken OtherDocuments (refl, refl, not_torn);
  damaged = λ taken. not_refused documents _ taken (Damaged 2) (record {
    end = 84;
    sum = documents;
    journal = header_journal documents;
    behind = record { front = []; closing = codes "# sum \0"; more = codes "# sum 0" ∷ []; splits = refl; others = tt; own = refl; another = omega arith };
    wrong = λ are. absurd (cc are.0.2.2.2.2.2.2.0);
    number = refl;
  });
}
