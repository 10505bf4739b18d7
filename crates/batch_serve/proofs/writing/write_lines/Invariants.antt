use Rattle.rtrb.specs.Ring.{SameConsumer, received}
use Rattle.batch_serve.specs.Threads.{WritesOn}
use Rattle.batch_serve.proofs.writing.write_lines.Given as goal

-- all that was received so far was written
abbrev pub invariant-loop : goal.invariant-loop
invariant-loop g l = record {
  written : WritesOn (received l.initial.ring) (received l.ring) (g.W.Write.contents l.initial.output) (g.W.Write.contents l.output);
  ring : SameConsumer l.initial.ring l.ring;
}
