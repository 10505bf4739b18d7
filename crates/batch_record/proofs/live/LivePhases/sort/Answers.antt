use Rattle.std.proofs.Common.{rules}
use Rattle.std.proofs.lemmas.List.Sorted.{answers_always, ranks_by}
use Rattle.batch_record.{specs.Kept.kept_live, specs.Listing.live_cmp, proofs.StableSort.is_before, proofs.StableSort.sorted-seen, proofs.StableSort.live_total, proofs.StableSort.live-back, proofs.StableSort.on-unit}
use Rattle.batch_record.proofs.live.LivePhases.sort.Goals as goal

pub returns-clause-sorted : goal.returns-clause-sorted
returns-clause-sorted c =
    sorted-seen kept_live live_cmp live-back _ (c.in_ok-sort_by.ensures.sorted (is_before kept_live live_cmp) (ranks_by live_total kept_live) (answers_always _ _ _ (λ f a r g h. search rules)))

pub returns-clause-stable : goal.returns-clause-stable
returns-clause-stable c = on-unit _ _ (c.in_ok-sort_by.ensures.stable (is_before kept_live live_cmp) (ranks_by live_total kept_live) (answers_always _ _ _ (λ f a r g h. search rules)))
