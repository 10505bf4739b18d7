use Rattle.std.proofs.Common.{take}
use Rattle.batch_cell.specs.LookUps.{units_of}
use Rattle.batch_reader.specs.DeskUnits.{HaveUnits}
use Rattle.batch_reader.proofs.units.check_each.Given as goal

-- the desks so far have units of the cell, or none
abbrev pub invariant-loop-entry : goal.invariant-loop-entry
invariant-loop-entry l = HaveUnits (units_of l.cell) (take l.entry l.desks)
