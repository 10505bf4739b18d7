use Rattle.std.proofs.Common.{◌≡◌, take, nat_eq}
use Rattle.std.specs.Cmp.Lexicographic.{pointwise}
use Rattle.indexmap.specs.IndexSet.{insert_all}
use Rattle.batch_set.proofs.cell_phases.add_names.Given as goal

-- the names so far were inserted in turn
abbrev pub invariant-loop-name : goal.invariant-loop-name
invariant-loop-name l = l.names.keys ≡ insert_all (pointwise nat_eq) l.initial.names.keys (take l.name-index l.more)
