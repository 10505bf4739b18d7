use Rattle.std.proofs.Common.{◌≡◌, arith, length, refl}
use Rattle.batch_pipes.proofs.ServiceRounds.{desks_end, service_begins}
use Rattle.batch_pipes.proofs.serving.serve_desks.Goals as goal

pub returns : goal.returns
returns g c =
    let opened = c.in_ok-server.ensures in
    let ran = c.in_ok-run_rounds.ensures in
    let is_safe = g.K.Keep.is_safe in
    let times = c.args.timing.now.times in
    let as_many : length c.in_ok-server.server.desks.items ≡ length c.args.desks.desks.items = omega (arith, opened.ports.writers, opened.outputs.of.count, opened.outputs.count) in
    desks_end is_safe c.run_rounds.new.keep times _ g.P.InputBytes.given g.P.Outputs.stands g.O.Write.contents g.P.Outputs.hands_back c.args.fronts.now c.args.desks.desks.items (g.K.Keep.kept c.run_rounds.new.keep)
    (g.W.Write.contents c.run_rounds.new.output) c.args.engine c.in_ok-server.server c.run_rounds.new.server c.in_ok-server.ports c.run_rounds.new.ports c.in_ok-server.outputs.items c.run_rounds.new.outputs.items c.in_ok-outputs.outputs.items
    (ran.service _ refl (service_begins is_safe c.args.keep.now times _ c.args.engine c.args.desks.desks.items c.in_ok-server.server c.in_ok-server.ports refl refl refl opened.ports as_many opened.opened))
    ran.group ran.ports opened.opened ran.desks ran.inputs as_many (omega (arith, as_many, opened.ports.readers)) opened.outputs ran.outputs c.in_ok-outputs.ensures ran.done
