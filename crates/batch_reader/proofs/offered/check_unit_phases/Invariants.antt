use Rattle.std.proofs.Common.{◌≡◌, take, nat_eq}
use Rattle.std.specs.{Cmp.Lexicographic.pointwise, List.IsDistinct}
use Rattle.batch_cell.specs.Equipment.{unit_phases}
use Rattle.batch_reader.proofs.offered.check_unit_phases.Given as goal

-- the phases of the modules so far are added
abbrev pub invariant-loop-entry : goal.invariant-loop-entry
invariant-loop-entry l = (l.phases.keys ≡ unit_phases (take l.entry l.modules) l.unit) × IsDistinct (pointwise nat_eq) l.phases.keys
