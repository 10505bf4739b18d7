use Rattle.std.proofs.Common.{◌≡◌, ◌++◌, map, take}
use Rattle.batch_record.specs.{Kept.kept_claims, Listing.claim_words, Listing.lines_behind}
use Rattle.batch_record.proofs.text.put_claims.Given as goal

abbrev pub invariant-loop-kept : goal.invariant-loop-kept
invariant-loop-kept l =
    l.text.items ≡ l.initial.text.items ++ lines_behind l.mark (map (claim_words l.word) (kept_claims (take l.kept-index l.claims)))
