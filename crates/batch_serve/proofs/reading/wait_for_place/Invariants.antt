use Rattle.std.proofs.Common.{◌≡◌}
use Rattle.rtrb.specs.Ring.{SameProducer, sent}
use Rattle.batch_serve.proofs.reading.wait_for_place.Given as goal

abbrev pub invariant-loop : goal.invariant-loop
invariant-loop g l = record {
  ring : SameProducer l.initial.ring l.ring;
  stays : sent l.ring ≡ sent l.initial.ring;
}
