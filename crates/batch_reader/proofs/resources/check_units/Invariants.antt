use Rattle.std.proofs.Common.{◌≡◌, true, take}
use Rattle.std.specs.List.{list_all}
use Rattle.batch_cell.specs.Equipment.{has_declared_unit, unit_names}
use Rattle.batch_reader.proofs.resources.check_units.Given as goal

-- the modules so far are free or belong to one of the units
abbrev pub invariant-loop-entry : goal.invariant-loop-entry
invariant-loop-entry l = list_all (has_declared_unit (unit_names l.units)) (take l.entry l.modules) ≡ true
