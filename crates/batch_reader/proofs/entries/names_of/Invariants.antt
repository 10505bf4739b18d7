use Rattle.std.proofs.Common.{take}
use Rattle.toml.specs.View.{items_view}
use Rattle.batch_reader.specs.Entries.{AllItems, IsNameItem}
use Rattle.batch_reader.proofs.entries.names_of.Given as goal

-- the values so far are the names so far
abbrev pub invariant-loop-value : goal.invariant-loop-value
invariant-loop-value l = AllItems IsNameItem (items_view (take l.value-index l.values)) l.names.items
