use Rattle.std.proofs.Common.{◌≡◌, ◌++◌, true, length, map}
use Rattle.std.specs.List.{list_all}
use Rattle.batch_wire.specs.EventLine.{event_words, is_role_pair, role_pair_of}
use Rattle.batch_wire.proofs.create_line.read_role_pairs.Given as goal

abbrev pub invariant-loop-pair : goal.invariant-loop-pair
invariant-loop-pair l = record {
  taken : map role_pair_of (event_words l.initial.pairs.rest.now) ≡ l.roles.items ++ map role_pair_of (event_words l.pairs.rest.now);
  left : list_all is_role_pair (event_words l.pairs.rest.now) ≡ true;
}

abbrev pub decreases-loop-pair : goal.decreases-loop-pair
decreases-loop-pair l = length (event_words l.pairs.rest.now)
