-- surface: the units of a cell, as a link keeps them.
use Rattle.std.specs.Prelude.{◌≡◌, ℕ, List, Some, slice_get}
use Rattle.batch_cell.specs.LookUps.{phases_of, resources_of}
use Rattle.batch_cell.specs.declared.cell.Cell.{Cell}
use Rattle.batch_plant.specs.declared.unit_phases.UnitPhases.{UnitPhases}

-- the unit with this number: its name, and the phases that it offers
abbrev pub IsUnitAt : Cell → ℕ → UnitPhases → Type 0
IsUnitAt cell number unit = (slice_get (resources_of cell) number ≡ Some unit.name) × (unit.phases.items ≡ phases_of cell number)

-- each unit is at the place of its number
abbrev pub AreCellUnits : Cell → List UnitPhases → Type 0
AreCellUnits cell units = (number : ℕ) (unit : UnitPhases) → slice_get units number ≡ Some unit → IsUnitAt cell number unit
