use Rattle.std.proofs.Common.{◌≡◌}
use Rattle.batch_engine.specs.{Led.IsLed, View.plant_of}
use Rattle.batch_model.specs.Runs.{work_left}
use Rattle.batch_plant.proofs.OrdersOfMoves.{AreGiven}
use Rattle.batch_plant.proofs.handling.make_moves.Given as goal

abbrev pub invariant-loop-line : goal.invariant-loop-line
invariant-loop-line g l = record {
  kept : l.engine.cleared ≡ l.initial.engine.cleared;
  led : IsLed l.engine;
  given : AreGiven g.D.UnitDriver.command_gives g.D.UnitDriver.tick_gives l.initial.engine.cleared
      (record { plant = plant_of l.initial.engine; units = l.initial.units }) (record { plant = plant_of l.engine; units = l.units })
      (g.W.Write.contents l.initial.writer) (g.W.Write.contents l.writer);
}

abbrev pub decreases-loop-line : goal.decreases-loop-line
decreases-loop-line g l = work_left (plant_of l.engine)
