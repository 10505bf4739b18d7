use Rattle.rtrb.specs.Ring.{sent}
use Rattle.batch_serve.proofs.ReadersAndWriters.{reads_then}
use Rattle.batch_serve.proofs.reading.read_lines.Goals as goal

pub returns-in-Some-clause-read : goal.returns-in-Some-clause-read
returns-in-Some-clause-read g c =
    reads_then c.in-Some.ended (g.R.Read.remaining c.args.input.now) (g.R.Read.remaining c.loop.input) (g.R.Read.remaining c.read_next.new.input) (sent c.args.ring.now) (sent c.loop.ring)
    (sent c.read_next.new.ring) c.loop.invariant.read c.in-Some.ensures.read
