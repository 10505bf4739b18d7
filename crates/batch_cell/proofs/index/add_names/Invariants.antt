use Rattle.std.proofs.Common.{◌≡◌, take, nat_eq}
use Rattle.std.specs.Cmp.Lexicographic.{pointwise}
use Rattle.indexmap.specs.IndexSet.{insert_all}
use Rattle.batch_cell.proofs.index.add_names.Given as goal

-- the names so far were inserted in turn
abbrev pub invariant-loop-name : goal.invariant-loop-name
invariant-loop-name l = l.index.keys ≡ insert_all (pointwise nat_eq) l.initial.index.keys (take l.name-index l.names)
