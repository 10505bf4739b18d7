use Rattle.std.proofs.Common.{◌≡◌, [], take, nat_eq}
use Rattle.std.specs.Cmp.Lexicographic.{pointwise}
use Rattle.indexmap.specs.IndexSet.{insert_all}
use Rattle.batch_cell.specs.Equipment.{unit_phases}
use Rattle.batch_cell.proofs.index.phases_of_unit.Given as goal

-- the phases of the modules so far were inserted in turn
abbrev pub invariant-loop-module : goal.invariant-loop-module
invariant-loop-module l = l.phases.keys ≡ insert_all (pointwise nat_eq) [] (unit_phases (take l.module-index l.modules) l.unit)
