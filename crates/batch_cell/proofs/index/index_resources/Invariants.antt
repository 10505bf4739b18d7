use Rattle.std.proofs.Common.{◌≡◌, [], take, nat_eq}
use Rattle.std.specs.Cmp.Lexicographic.{pointwise}
use Rattle.indexmap.specs.IndexSet.{insert_all}
use Rattle.batch_cell.specs.Equipment.{resource_names}
use Rattle.batch_cell.proofs.index.index_resources.Given as goal

-- the names of the units so far were inserted in turn
abbrev pub invariant-loop-unit : goal.invariant-loop-unit
invariant-loop-unit l = l.names.keys ≡ insert_all (pointwise nat_eq) [] (resource_names (take l.unit-index l.units) [] [])

-- then those of the free modules so far
abbrev pub invariant-loop-module : goal.invariant-loop-module
invariant-loop-module l = l.names.keys ≡ insert_all (pointwise nat_eq) [] (resource_names l.units (take l.module-index l.modules) [])

-- then those of the shared resources so far
abbrev pub invariant-loop-resource : goal.invariant-loop-resource
invariant-loop-resource l = l.names.keys ≡ insert_all (pointwise nat_eq) [] (resource_names l.units l.modules (take l.resource-index l.shared))
