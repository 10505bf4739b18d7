use Rattle.std.proofs.Common.{ap, arith, length, ◌∙◌}
use Rattle.batch_pipes.{proofs.ReaderMessages.inputs_gathered, proofs.ReaderMessages.order_of, proofs.DeskChanges.desks_handed, proofs.DeskChanges.desks_same, proofs.DeskChanges.desks_twice, proofs.DeskChanges.readers_as_they_are, proofs.DeskChanges.writers_handed, proofs.ServiceRounds.service_gathered, proofs.ServiceRounds.service_handed, specs.Service.rings_of, specs.Service.told_to, specs.declared.ports.Ports.Ports}
use Rattle.batch_pipes.proofs.rounds.serve_round.Goals as goal

pub returns-clause-ports : goal.returns-clause-ports
returns-clause-ports g c =
    let handed = c.hand_on.ensures.handed.handed in
    let gathered = c.in_ok-gather.ensures.gathered in
    record {
      readers = omega (arith, c.requires.readers, gathered.count, handed.count, c.in_ok-serves.ensures.desks.count, ap length c.gather.ensures.same.desks);
      writers = omega (arith, c.requires.writers, handed.writers, handed.count, c.in_ok-serves.ensures.desks.count, ap length c.gather.ensures.same.desks);
      threads = omega (arith, c.requires.threads, handed.count, c.in_ok-serves.ensures.desks.count, ap length c.gather.ensures.same.desks);
    }

pub returns-clause-service : goal.returns-clause-service
returns-clause-service g c = λ begun again s.
    let is_safe = g.K.Keep.is_safe in
    let times = c.args.timing.now.times in
    let gathered_ports : Ports g.row.P.Denot = record c.args.ports.now { readers = c.gather.new.readers } in
    let handed_ports : Ports g.row.P.Denot = record gathered_ports { writers = c.hand_on.new.writers } in
    let gathered = service_gathered is_safe (order_of g.P.InputBytes.given) c.args.keep.now times begun (g.K.Keep.kept c.args.keep.now) (g.W.Write.contents c.args.output.now) c.args.server.now
    c.gather.new.self (told_to c.args.ports.now.writers.items) c.args.ports.now.readers.items c.gather.new.readers.items c.gather.ensures.same c.in_ok-gather.ensures.gathered c.requires.readers s in
    let served = c.in_ok-serves.ensures.service (rings_of gathered_ports) begun again gathered in
    service_handed is_safe c.serve_group.new.keep times begun (g.K.Keep.kept c.serve_group.new.keep) (g.W.Write.contents c.serve_group.new.output) c.serve_group.new.server c.hand_on.new.self
    gathered_ports handed_ports c.hand_on.ensures.handed (readers_as_they_are c.gather.new.readers.items)
    (record {
      readers = omega (arith, c.requires.readers, c.in_ok-gather.ensures.gathered.count, c.in_ok-serves.ensures.desks.count, ap length c.gather.ensures.same.desks);
      writers = omega (arith, c.requires.writers, c.in_ok-serves.ensures.desks.count, ap length c.gather.ensures.same.desks);
      threads = omega (arith, c.requires.threads, c.in_ok-serves.ensures.desks.count, ap length c.gather.ensures.same.desks);
    })
    served

pub returns-clause-inputs : goal.returns-clause-inputs
returns-clause-inputs g c =
    inputs_gathered g.P.InputBytes.given c.args.server.now.desks.items c.args.ports.now.readers.items c.gather.new.readers.items _ _ c.requires.readers c.in_ok-gather.ensures.gathered

pub returns-clause-group : goal.returns-clause-group
returns-clause-group g c = c.hand_on.ensures.handed.group ∙ c.in_ok-serves.ensures.group

pub returns-clause-writers : goal.returns-clause-writers
returns-clause-writers g c =
    writers_handed c.serve_group.new.server.desks.items c.hand_on.new.self.desks.items c.args.ports.now.writers.items c.hand_on.new.writers.items
    (omega (arith, c.requires.writers, c.in_ok-serves.ensures.desks.count, ap length c.gather.ensures.same.desks)) c.hand_on.ensures.handed.handed

pub returns-clause-desks : goal.returns-clause-desks
returns-clause-desks g c =
    desks_twice c.args.server.now.desks.items c.gather.new.self.desks.items c.hand_on.new.self.desks.items (desks_same _ _ c.gather.ensures.same.desks)
    (desks_twice _ c.serve_group.new.server.desks.items _ c.in_ok-serves.ensures.desks
    (desks_handed _ _ c.args.ports.now.writers.items c.hand_on.new.writers.items
    (omega (arith, c.requires.writers, c.in_ok-serves.ensures.desks.count, ap length c.gather.ensures.same.desks)) c.hand_on.ensures.handed.handed))
