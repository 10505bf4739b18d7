use Rattle.std.proofs.Common.{refl, ◌∙◌}
use Rattle.batch_pipes.proofs.{ReaderMessages.inputs_kept, ReaderMessages.inputs_twice, DeskChanges.desks_handed, DeskChanges.desks_same, DeskChanges.desks_twice, WriterOutputs.outputs_as_they_are, WriterOutputs.outputs_on, WriterOutputs.outputs_twice, ServiceRounds.service_handed}
use Rattle.batch_pipes.proofs.serving.run_rounds.Goals as goal

pub loop-init : goal.loop-init
loop-init g c = record {
  ports = c.requires.ports;
  inputs = λ listed of. of;
  outputs = outputs_as_they_are _ c.args.outputs.now.items c.args.ports.now.writers.items c.requires.outputs;
  desks = desks_same _ _ refl;
  goes = λ begun again s. s;
}

pub loop-preserved : goal.loop-preserved
loop-preserved g c = record {
  ports = c.tend_desks-outlook.ensures.ports;
  inputs = inputs_twice g.P.InputBytes.given c.args.ports.now.readers.items c.loop.ports.readers.items c.tend_desks-outlook.new.ports.readers.items c.loop.invariant.inputs
      (inputs_twice g.P.InputBytes.given c.loop.ports.readers.items c.serve_round.new.ports.readers.items c.tend_desks-outlook.new.ports.readers.items c.in_ok-serves.ensures.inputs
      (inputs_kept g.P.InputBytes.given c.serve_round.new.ports.readers.items c.tend_desks-outlook.new.ports.readers.items c.tend_desks-outlook.ensures.readers));
  outputs = outputs_twice _ c.args.outputs.now.items c.loop.outputs.items c.tend_desks-outlook.new.outputs.items c.loop.ports.writers.items
      c.tend_desks-outlook.new.ports.writers.items c.loop.invariant.outputs c.tend_desks-outlook.ensures.outputs;
  desks = desks_twice _ c.loop.server.desks.items _ c.loop.invariant.desks (desks_twice _ c.serve_round.new.server.desks.items _ c.in_ok-serves.ensures.desks
      (desks_handed _ _ c.serve_round.new.ports.writers.items c.tend_desks-outlook.new.ports.writers.items c.in_ok-serves.ensures.ports.writers c.tend_desks-outlook.ensures.desks.handed));
  goes = λ begun again s.
      service_handed g.K.Keep.is_safe c.serve_round.new.keep c.args.timing.now.times begun (g.K.Keep.kept c.serve_round.new.keep) (g.W.Write.contents c.serve_round.new.output)
      c.serve_round.new.server c.tend_desks-outlook.new.server c.serve_round.new.ports c.tend_desks-outlook.new.ports c.tend_desks-outlook.ensures.desks c.tend_desks-outlook.ensures.readers
      c.in_ok-serves.ensures.ports (c.in_ok-serves.ensures.service begun again (c.loop.invariant.goes begun again s));
}

pub returns-then-is_over-clause-done : goal.returns-then-is_over-clause-done
returns-then-is_over-clause-done g c =
    let none = c.is_over.ensures c.if-is_over.true in
    c.tend_desks-outlook.ensures.done none.0 none.1

pub returns-then-is_over-clause-service : goal.returns-then-is_over-clause-service
returns-then-is_over-clause-service g c = λ begun again s.
    service_handed g.K.Keep.is_safe c.serve_round.new.keep c.args.timing.now.times begun (g.K.Keep.kept c.serve_round.new.keep) (g.W.Write.contents c.serve_round.new.output)
    c.serve_round.new.server c.tend_desks-outlook.new.server c.serve_round.new.ports c.tend_desks-outlook.new.ports c.tend_desks-outlook.ensures.desks c.tend_desks-outlook.ensures.readers
    c.in_ok-serves.ensures.ports (c.in_ok-serves.ensures.service begun again (c.loop.invariant.goes begun again s))

pub returns-then-is_over-clause-inputs : goal.returns-then-is_over-clause-inputs
returns-then-is_over-clause-inputs g c =
    inputs_twice g.P.InputBytes.given c.args.ports.now.readers.items c.loop.ports.readers.items c.tend_desks-outlook.new.ports.readers.items c.loop.invariant.inputs
    (inputs_twice g.P.InputBytes.given c.loop.ports.readers.items c.serve_round.new.ports.readers.items c.tend_desks-outlook.new.ports.readers.items c.in_ok-serves.ensures.inputs
    (inputs_kept g.P.InputBytes.given c.serve_round.new.ports.readers.items c.tend_desks-outlook.new.ports.readers.items c.tend_desks-outlook.ensures.readers))

pub returns-then-is_over-clause-group : goal.returns-then-is_over-clause-group
returns-then-is_over-clause-group g c = c.tend_desks-outlook.ensures.desks.group ∙ c.in_ok-serves.ensures.group

pub tend_desks-outlook-requires-clause-outputs : goal.tend_desks-outlook-requires-clause-outputs
tend_desks-outlook-requires-clause-outputs g c =
    outputs_on _ c.loop.outputs.items c.loop.ports.writers.items c.serve_round.new.ports.writers.items c.in_ok-serves.ensures.writer_count
    c.in_ok-serves.ensures.writers c.loop.invariant.outputs.of

pub returns-then-is_over-clause-outputs : goal.returns-then-is_over-clause-outputs
returns-then-is_over-clause-outputs g c =
    outputs_twice _ c.args.outputs.now.items c.loop.outputs.items c.tend_desks-outlook.new.outputs.items c.loop.ports.writers.items
    c.tend_desks-outlook.new.ports.writers.items c.loop.invariant.outputs c.tend_desks-outlook.ensures.outputs

pub returns-then-is_over-clause-desks : goal.returns-then-is_over-clause-desks
returns-then-is_over-clause-desks g c =
    desks_twice _ c.loop.server.desks.items _ c.loop.invariant.desks (desks_twice _ c.serve_round.new.server.desks.items _ c.in_ok-serves.ensures.desks
    (desks_handed _ _ c.serve_round.new.ports.writers.items c.tend_desks-outlook.new.ports.writers.items c.in_ok-serves.ensures.ports.writers c.tend_desks-outlook.ensures.desks.handed))
