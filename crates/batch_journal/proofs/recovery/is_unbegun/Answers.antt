use Rattle.std.proofs.Common.{sym, ◌∙◌, inr, ⊎_elim, arith}
use Rattle.batch_journal.proofs.{RecoveryLemmas.not_both, RecoveryLemmas.part_length, FilesWithoutRefusal.like_part, FilesWithoutRefusal.part_like, FilesWithoutRefusal.some_feed}
use Rattle.batch_journal.proofs.recovery.is_unbegun.Goals as goal

pub returns-then-bytes-le84-clause-yes : goal.returns-then-bytes-le84-clause-yes
returns-then-bytes-le84-clause-yes c = λ yes. inr (like_part _ _ (omega (arith, c.if-bytes-le84.true, c.told-header)) (sym c.is_like.ensures ∙ yes))

pub returns-then-bytes-le84-clause-no : goal.returns-then-bytes-le84-clause-no
returns-then-bytes-le84-clause-no c = λ no begun.
    ⊎_elim (some_feed _ _ c.memchr.ensures c.if-is_none.ensures) (λ part. not_both _ (c.is_like.ensures ∙ part_like _ _ part) no) begun

pub returns-else-bytes-le84-clause-no : goal.returns-else-bytes-le84-clause-no
returns-else-bytes-le84-clause-no c = λ no begun.
    ⊎_elim (some_feed _ _ c.memchr.ensures c.if-is_none.ensures) (λ part. omega (arith, part_length _ _ part, c.if-bytes-le84.false, c.told-header)) begun
