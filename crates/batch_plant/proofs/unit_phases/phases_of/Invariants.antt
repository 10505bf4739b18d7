use Rattle.std.proofs.Common.{◌≡◌, take}
use Rattle.batch_cell.specs.LookUps.{phases_of}
use Rattle.batch_plant.proofs.unit_phases.phases_of.Given as goal

abbrev pub invariant-loop-number : goal.invariant-loop-number
invariant-loop-number l = l.phases.items ≡ take l.number (phases_of l.cell l.unit)
