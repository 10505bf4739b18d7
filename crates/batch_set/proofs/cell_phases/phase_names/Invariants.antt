use Rattle.std.proofs.Common.{◌≡◌, [], take, nat_eq}
use Rattle.std.specs.{Prelude.flat_map, Cmp.Lexicographic.pointwise}
use Rattle.indexmap.specs.IndexSet.{insert_all}
use Rattle.batch_set.specs.Linking.{phases_in}
use Rattle.batch_set.proofs.cell_phases.phase_names.Given as goal

-- the phases of the modules so far were inserted in turn
abbrev pub invariant-loop-module : goal.invariant-loop-module
invariant-loop-module l = l.names.keys ≡ insert_all (pointwise nat_eq) [] (flat_map phases_in (take l.module-index l.modules))
