use Rattle.std.proofs.Common.{◌≡◌, length}
use Rattle.std.specs.List.{All}
use Rattle.batch_sim.specs.SteadyUnit.{SteadyView}
use Rattle.batch_program.proofs.steady_units.steady_units.Given as goal

abbrev pub invariant-loop-unit : goal.invariant-loop-unit
invariant-loop-unit l = record {
  count : length l.units.items ≡ l.unit;
  ticks : All (λ (unit : SteadyView). unit.ticks ≡ l.ticks) l.units.items;
}
