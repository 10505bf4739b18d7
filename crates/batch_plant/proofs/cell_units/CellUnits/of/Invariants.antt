use Rattle.std.proofs.Common.{◌≡◌, length}
use Rattle.batch_plant.specs.UnitsOfCell.{AreCellUnits}
use Rattle.batch_plant.proofs.cell_units.CellUnits.of.Given as goal

abbrev pub invariant-loop-unit : goal.invariant-loop-unit
invariant-loop-unit l = (length l.units.items ≡ l.unit) × AreCellUnits l.cell l.units.items
