use Rattle.std.proofs.Common.{◌≡◌, ◌++◌, take, nat_eq}
use Rattle.std.specs.{Cmp.Lexicographic.pointwise, List.IsDistinct}
use Rattle.batch_reader.proofs.names.add_list.Given as goal

-- the names so far are added
abbrev pub invariant-loop-name : goal.invariant-loop-name
invariant-loop-name l = (l.names.keys ≡ l.initial.names.keys ++ take l.name-index l.list) × IsDistinct (pointwise nat_eq) l.names.keys
