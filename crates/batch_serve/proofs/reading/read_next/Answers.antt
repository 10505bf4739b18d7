use Rattle.rtrb.specs.Ring.{sent}
use Rattle.batch_serve.proofs.ReadersAndWriters.{may_after_lines, may_end, may_lines}
use Rattle.batch_serve.proofs.reading.read_next.Goals as goal

pub hand_over-requires : goal.hand_over-requires
hand_over-requires g c =
    may_lines g.O.Protocol.allows (sent c.args.ring.now) (g.R.Read.remaining c.args.input.now) (g.R.Read.remaining c.read_once.new.input) c.in-Lines.lines c.requires.allowed
    c.in-Lines.ensures.1 c.in-Lines.ensures.0

pub hand_over-requires-in-End : goal.hand_over-requires-in-End
hand_over-requires-in-End g c =
    may_end g.O.Protocol.allows (sent c.args.ring.now) (g.R.Read.remaining c.args.input.now) (g.R.Read.remaining c.read_once.new.input) c.requires.allowed c.in-End.ensures.0 c.in-End.ensures.1

pub returns-then-hand_over-clause-allowed : goal.returns-then-hand_over-clause-allowed
returns-then-hand_over-clause-allowed g c = λ none.
    may_after_lines g.O.Protocol.allows (sent c.args.ring.now) (sent c.hand_over.new.ring) (g.R.Read.remaining c.args.input.now) (g.R.Read.remaining c.read_once.new.input) c.in-Lines.lines
    c.requires.allowed c.in-Lines.ensures.1 c.in-Lines.ensures.0 (c.hand_over.ensures.went c.if-hand_over.true)
