use Rattle.std.proofs.Common.{refl, sym, ◌∙◌}
use Rattle.std.proofs.{KnownBytes.Appends-nil, lemmas.Result.err_from_is_err_and}
use Rattle.batch_engine.specs.{Surface.move_of, View.plant_of}
use Rattle.batch_serve.proofs.{UnchangedSet.next_in, UnchangedSet.none_in, UnchangedSet.after_in, Settlement.falls}
use Rattle.batch_plant.{specs.Drive.Standing, proofs.OrdersOfMoves.none_given, proofs.OrdersOfMoves.one_more, proofs.OrdersOfMoves.order_taken, proofs.OrdersOfMoves.all_given, proofs.OrdersOfMoves.stopped_at}
use Rattle.batch_plant.proofs.handling.make_moves.Goals as goal

pub loop-line-init : goal.loop-line-init
loop-line-init g c = record {
  kept = refl;
  led = c.requires;
  given = none_given g.D.UnitDriver.command_gives g.D.UnitDriver.tick_gives c.args.engine.now.cleared _ _ (Appends-nil _);
}

pub loop-line-preserved : goal.loop-line-preserved
loop-line-preserved g c =
    let before = c.loop-line.invariant in
    let set = c.args.engine.now.cleared in
    let made = next_in _ set (plant_of c.loop-line.engine) c.in-Some.line before.kept c.in-Some.ensures.next in
    let is = after_in _ set (plant_of c.loop-line.engine) (plant_of c.next_move.new.self) c.in-Some.line before.kept c.in-Some.ensures.plant in
    record {
      kept = c.in-Some.ensures.cleared ∙ before.kept;
      led = c.cleared.ensures.led;
      given = one_more g.D.UnitDriver.command_gives g.D.UnitDriver.tick_gives set _ _ _ _ _ _ _ before.given made is
          (order_taken g.D.UnitDriver.command_gives g.D.UnitDriver.tick_gives set c.in-Some.line _ _ c.give_order.ensures)
          (rw (c.cleared.ensures.value, c.in-Some.ensures.cleared, before.kept) at c.in_ok-write_out.ensures);
    }

pub returns-clause-moves : goal.returns-clause-moves
returns-clause-moves g c =
    let before = c.loop-line.invariant in
    let set = c.args.engine.now.cleared in
    let none = none_in _ set (plant_of c.loop-line.engine) before.kept c.in_default.ensures.next in
    all_given g.D.UnitDriver.command_gives g.D.UnitDriver.tick_gives set _ _ _ _ _ before.given none c.in_default.ensures.plant refl

pub returns-clause-cleared : goal.returns-clause-cleared
returns-clause-cleared g c = c.in_default.ensures.cleared ∙ c.loop-line.invariant.kept

pub returns-in_err-write_out-clause-moves : goal.returns-in_err-write_out-clause-moves
returns-in_err-write_out-clause-moves g c =
    let p = err_from_is_err_and c.from_residual.result c.from_residual.ensures.1 in
    let before = c.loop-line.invariant in
    let set = c.args.engine.now.cleared in
    let new : Standing g.row.D.Denot = record { plant = plant_of c.next_move.new.self; units = c.loop-line.units } in
    let made = next_in _ set (plant_of c.loop-line.engine) c.in-Some.line before.kept c.in-Some.ensures.next in
    let is = after_in _ set (plant_of c.loop-line.engine) (plant_of c.next_move.new.self) c.in-Some.line before.kept c.in-Some.ensures.plant in
    rw (p.1) (stopped_at g.D.UnitDriver.command_gives g.D.UnitDriver.tick_gives set _ _ new _ _ _ _ before.given made is refl
    (rw (c.cleared.ensures.value, c.in-Some.ensures.cleared, before.kept) at c.in_err-write_out.ensures))

pub loop-line-smaller : goal.loop-line-smaller
loop-line-smaller g c = falls c.loop-line.engine (plant_of c.next_move.new.self) (move_of c.loop-line.engine.cleared c.in-Some.line) c.loop-line.invariant.led (sym c.in-Some.ensures.next) c.in-Some.ensures.plant
