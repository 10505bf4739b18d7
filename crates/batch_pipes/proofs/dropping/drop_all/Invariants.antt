use Rattle.batch_serve.specs.Rounds.{IsHandedOn}
use Rattle.batch_pipes.proofs.dropping.drop_all.Given as goal

-- some of the queued lines were handed on
abbrev pub invariant-loop : goal.invariant-loop
invariant-loop l = IsHandedOn l.initial.desk l.desk l.initial.writer l.writer
