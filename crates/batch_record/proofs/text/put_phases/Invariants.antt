use Rattle.std.proofs.Common.{◌≡◌, ◌++◌, map, take}
use Rattle.batch_record.specs.{Kept.lives_of, Listing.live_words, Listing.lines_behind}
use Rattle.batch_record.proofs.text.put_phases.Given as goal

abbrev pub invariant-loop-phase : goal.invariant-loop-phase
invariant-loop-phase l =
    l.text.items ≡ l.initial.text.items ++ lines_behind l.mark (map live_words (lives_of (take l.phase-index l.phases)))
