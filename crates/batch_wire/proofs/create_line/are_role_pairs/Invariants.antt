use Rattle.std.proofs.Common.{◌≡◌, length}
use Rattle.std.specs.List.{list_all}
use Rattle.batch_wire.specs.EventLine.{event_words, is_role_pair}
use Rattle.batch_wire.proofs.create_line.are_role_pairs.Given as goal

abbrev pub invariant-loop-pair : goal.invariant-loop-pair
invariant-loop-pair l = list_all is_role_pair (event_words l.initial.pairs.rest.now) ≡ list_all is_role_pair (event_words l.pairs.rest.now)

abbrev pub decreases-loop-pair : goal.decreases-loop-pair
decreases-loop-pair l = length (event_words l.pairs.rest.now)
