use Rattle.std.proofs.Common.{◌≡◌, ◌++◌, take, map, nat_eq}
use Rattle.std.specs.{Cmp.Lexicographic.pointwise, List.IsDistinct}
use Rattle.batch_reader.proofs.names.add_names.Given as goal

-- the names of the tables so far are added
abbrev pub invariant-loop-entry : goal.invariant-loop-entry
invariant-loop-entry g l = (l.names.keys ≡ l.initial.names.keys ++ map g.T.Named.name_of (take l.entry l.items)) × IsDistinct (pointwise nat_eq) l.names.keys
