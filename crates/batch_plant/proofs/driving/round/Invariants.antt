use Rattle.std.proofs.Common.{◌≡◌, ◌-◌}
use Rattle.std.specs.List.{range_with_len}
use Rattle.batch_engine.specs.View.{plant_of}
use Rattle.batch_plant.proofs.TickEffects.{Leaves}
use Rattle.batch_plant.proofs.driving.round.Given as goal

abbrev pub invariant-loop-unit : goal.invariant-loop-unit
invariant-loop-unit g l = record {
  kept : l.engine.cleared ≡ l.initial.engine.cleared;
  leaves : Leaves g.D.UnitDriver.command_gives g.D.UnitDriver.tick_gives l.initial.engine.cleared (range_with_len 0 l.count) (range_with_len l.unit (l.count - l.unit))
      (record { plant = plant_of l.initial.engine; units = l.initial.units }) (record { plant = plant_of l.engine; units = l.units })
      (g.W.Write.contents l.initial.writer) (g.W.Write.contents l.writer);
}
