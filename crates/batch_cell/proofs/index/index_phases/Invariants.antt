use Rattle.std.proofs.Common.{◌≡◌, take, map}
use Rattle.indexmap.specs.IndexSet.{keys}
use Rattle.batch_cell.specs.Equipment.{offered_phases}
use Rattle.batch_cell.proofs.index.index_phases.Given as goal

-- the units so far have their phases
abbrev pub invariant-loop-unit : goal.invariant-loop-unit
invariant-loop-unit l = map keys l.offered.items ≡ offered_phases (take l.unit-index l.units) l.modules
