use Rattle.batch_pipes.specs.{Inputs.InputsGoOn, Kept.ArePortsOf, Kept.AreSameDesks, OutputEnds.IsHandedBack, Outputs.AreOutputsKept, Service.GoesOn, Service.rings_of}
use Rattle.batch_pipes.proofs.serving.run_rounds.Given as goal

-- the rounds so far led the service on
abbrev pub invariant-loop : goal.invariant-loop
invariant-loop g l = record {
  ports : ArePortsOf l.server.desks.items l.ports;
  inputs : InputsGoOn g.P.InputBytes.given l.initial.ports.readers.items l.ports.readers.items;
  outputs : AreOutputsKept (IsHandedBack g.O.Write.contents g.P.Outputs.stands g.P.Outputs.hands_back) l.initial.outputs.items l.outputs.items l.ports.writers.items;
  desks : AreSameDesks l.initial.server.desks.items l.server.desks.items;
  goes : GoesOn l.timing.times g.K.Keep.again (g.K.Keep.is_safe l.initial.keep) (g.K.Keep.is_safe l.keep) (g.K.Keep.kept l.initial.keep) (g.K.Keep.kept l.keep)
      (g.W.Write.contents l.initial.output) (g.W.Write.contents l.output) l.initial.server l.server (rings_of l.initial.ports) (rings_of l.ports);
}
