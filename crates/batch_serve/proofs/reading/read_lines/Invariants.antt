use Rattle.rtrb.specs.Ring.{SameProducer, sent}
use Rattle.batch_serve.specs.Threads.{MayHandOver, ReadsOn}
use Rattle.batch_serve.proofs.reading.read_lines.Given as goal

-- all that was read so far was handed over
abbrev pub invariant-loop : goal.invariant-loop
invariant-loop g l = record {
  read : ReadsOn (g.R.Read.remaining l.initial.input) (g.R.Read.remaining l.input) (sent l.initial.ring) (sent l.ring);
  ring : SameProducer l.initial.ring l.ring;
  allowed : MayHandOver g.O.Protocol.allows (sent l.ring) (g.R.Read.remaining l.input);
}
