use Rattle.std.proofs.Common.{refl, subst}
use Rattle.std.proofs.lemmas.Result.{err_from_is_err_and}
use Rattle.batch_verify.specs.ClearedSet.{ClearedSet}
use Rattle.batch_engine.specs.View.{plant_of}
use Rattle.batch_plant.{specs.Drive.Standing, specs.Handling.WritesOrders, proofs.OrdersOfMoves.reply_stopped, proofs.OrdersOfMoves.reported}
use Rattle.batch_plant.proofs.handling.handle.Goals as goal

pub returns-in_err-write_out-clause-reported : goal.returns-in_err-write_out-clause-reported
returns-in_err-write_out-clause-reported g c =
    let p = err_from_is_err_and c.from_residual.result c.from_residual.ensures.1 in
    let set = c.args.engine.now.cleared in
    let before : Standing g.row.D.Denot = record { plant = plant_of c.args.engine.now; units = c.args.units.now } in
    let new : Standing g.row.D.Denot = record { plant = plant_of c.accept-reply.new.self; units = c.args.units.now } in
    rw (p.1) (reply_stopped g.D.UnitDriver.command_gives g.D.UnitDriver.tick_gives set before new _ _ _ _ _ refl c.accept-reply.ensures.reacts
    (rw (c.cleared.ensures.value, c.accept-reply.ensures.cleared) at c.in_err-write_out.ensures))

pub returns-clause-reported : goal.returns-clause-reported
returns-clause-reported g c =
    let set = c.args.engine.now.cleared in
    let before : Standing g.row.D.Denot = record { plant = plant_of c.args.engine.now; units = c.args.units.now } in
    let mid : Standing g.row.D.Denot = record { plant = plant_of c.accept-reply.new.self; units = c.args.units.now } in
    let new : Standing g.row.D.Denot = record { plant = plant_of c.make_moves.new.engine; units = c.make_moves.new.units } in
    reported g.D.UnitDriver.command_gives g.D.UnitDriver.tick_gives set before mid new _ _ _ _ _ _ refl c.accept-reply.ensures.reacts
    (rw (c.cleared.ensures.value, c.accept-reply.ensures.cleared) at c.in_ok-write_out.ensures)
    (subst (λ (k : ClearedSet). WritesOrders g.D.UnitDriver.command_gives g.D.UnitDriver.tick_gives k mid c.make_moves.result new (g.W.Write.contents c.write_out.new.writer) (g.W.Write.contents c.make_moves.new.writer))
    c.accept-reply.ensures.cleared c.make_moves.ensures.moves)
