use Rattle.std.proofs.Common.{take}
use Rattle.toml.specs.View.{items_view}
use Rattle.batch_reader.specs.Entries.{AllItems, IsTableOf}
use Rattle.batch_reader.proofs.tables.tables_at.Given as goal

-- the tables so far stand for the values so far
abbrev pub invariant-loop-entry : goal.invariant-loop-entry
invariant-loop-entry g l = AllItems (IsTableOf (g.T.FromTable.stands_for l.kind)) (items_view (take l.entry l.item-items)) l.values.items
