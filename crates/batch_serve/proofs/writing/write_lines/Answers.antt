use Rattle.rtrb.specs.Ring.{received}
use Rattle.batch_serve.proofs.ReadersAndWriters.{writes_then}
use Rattle.batch_serve.proofs.writing.write_lines.Goals as goal

pub returns-in-Some-clause-written : goal.returns-in-Some-clause-written
returns-in-Some-clause-written g c =
    writes_then c.in-Some.ended (received c.args.ring.now) (received c.loop.ring) (received c.write_next.new.ring) (g.W.Write.contents c.args.output.now) (g.W.Write.contents c.loop.output)
    (g.W.Write.contents c.write_next.new.output) c.loop.invariant.written c.in-Some.ensures.written
