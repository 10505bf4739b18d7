use Rattle.std.proofs.Common.{◌≡◌, ◌-◌, length}
use Rattle.batch_cell.specs.LookUps.{units_of}
use Rattle.batch_engine.specs.View.{plant_of}
use Rattle.batch_plant.{specs.Drive.in_rounds, proofs.TickEffects.Leaves}
use Rattle.batch_plant.proofs.driving.drive.Given as goal

abbrev pub invariant-loop : goal.invariant-loop
invariant-loop g l = record {
  kept : l.engine.cleared ≡ l.initial.engine.cleared;
  leaves : Leaves g.D.UnitDriver.command_gives g.D.UnitDriver.tick_gives l.initial.engine.cleared (in_rounds (length (units_of l.initial.engine.cleared.cell)) l.rounds)
      (in_rounds (length (units_of l.initial.engine.cleared.cell)) (l.rounds - l.counter))
      (record { plant = plant_of l.initial.engine; units = l.initial.units }) (record { plant = plant_of l.engine; units = l.units })
      (g.W.Write.contents l.initial.writer) (g.W.Write.contents l.writer);
}
