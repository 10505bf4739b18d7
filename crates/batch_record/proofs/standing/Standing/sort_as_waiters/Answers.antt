use Rattle.std.proofs.Common.{rules}
use Rattle.std.proofs.lemmas.List.Sorted.{answers_always, ranks_by}
use Rattle.batch_record.{specs.Kept.kept_claim, specs.Listing.waiter_cmp, proofs.StableSort.is_before, proofs.StableSort.sorted-seen, proofs.StableSort.waiter_total, proofs.StableSort.kept-back, proofs.StableSort.at-resource}
use Rattle.batch_record.proofs.standing.Standing.sort_as_waiters.Goals as goal

pub returns-clause-sorted : goal.returns-clause-sorted
returns-clause-sorted c =
    sorted-seen kept_claim waiter_cmp kept-back _ (c.in_ok-sort_by.ensures.sorted (is_before kept_claim waiter_cmp) (ranks_by waiter_total kept_claim) (answers_always _ _ _ (λ f a r g h. search rules)))

pub returns-clause-stable : goal.returns-clause-stable
returns-clause-stable c = at-resource _ _ (c.in_ok-sort_by.ensures.stable (is_before kept_claim waiter_cmp) (ranks_by waiter_total kept_claim) (answers_always _ _ _ (λ f a r g h. search rules)))
