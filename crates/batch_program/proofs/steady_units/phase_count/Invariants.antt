use Rattle.std.proofs.Common.{◌≤◌, length}
use Rattle.batch_cell.specs.LookUps.{phases_of}
use Rattle.batch_program.proofs.steady_units.phase_count.Given as goal

abbrev pub invariant-loop-number : goal.invariant-loop-number
invariant-loop-number l = l.number ≤ length (phases_of l.cell l.unit)
