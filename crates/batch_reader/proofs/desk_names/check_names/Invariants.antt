use Rattle.std.proofs.Common.{take}
use Rattle.batch_reader.specs.DeskNames.{HaveDistinctNames}
use Rattle.batch_reader.proofs.desk_names.check_names.Given as goal

-- the names so far differ
abbrev pub invariant-loop-entry : goal.invariant-loop-entry
invariant-loop-entry l = HaveDistinctNames (take l.entry l.desks)
